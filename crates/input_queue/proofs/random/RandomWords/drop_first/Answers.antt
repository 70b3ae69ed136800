use Rattle.std.proofs.Common.{◌≡◌, ◌≤◌, ◌+◌, drop, length, sym, ap, ◌∙◌, arith, drop-drop}
use Rattle.std.proofs.Math.ListN.{drop_of_length-le}
use Rattle.input_queue.proofs.random.RandomWords.drop_first.Goals as goal

pub returns-then-self-len : goal.returns-then-self-len
returns-then-self-len c = sym (drop-drop 1 c.self.inside.drawn c.self.inside.words.items) ∙ ap (drop 1) c.self.view_is

pub returns-else-self-len : goal.returns-else-self-len
returns-else-self-len c =
    let all : length c.self.inside.words.items ≤ c.self.inside.drawn + 1 = omega (arith, c.len.ensures, c.if-self-len.false) in
    c.clear.ensures.items ∙ sym (drop_of_length-le c.self.inside.words.items all) ∙ sym (drop-drop 1 c.self.inside.drawn c.self.inside.words.items) ∙ ap (drop 1) c.self.view_is
