use Rattle.std.proofs.Common.{◌≡◌, ◌∙◌, ◌+◌, ap, sym, List, ℕ, length, take, Option, Some, None}
use Rattle.defs_text.specs.Quotes.{closing, fault_inside, meant}
use Rattle.defs_text.specs.Lexing.{Saying, token, quoted_piece, inside_piece}
use Rattle.soar_lex.proofs.front.inside.Goals as goal

pub returns-in-None-clause-piece : goal.returns-in-None-clause-piece
returns-in-None-clause-piece c = λ says. ap (quoted_piece c.args.quote c.args.place says c.args.after.now) (sym c.in-None.ensures.count)

-- where the closing byte is found, and what stands before it
found : (quote place count : ℕ) (says : List ℕ → Saying) (after inside : List ℕ) (wrong : Option ℕ) → closing quote after ≡ Some count → inside ≡ take count after
    → fault_inside quote inside ≡ wrong → quoted_piece quote place says after (closing quote after) ≡ inside_piece place says count inside wrong
found quote place count says after inside wrong there is bad =
    ap (quoted_piece quote place says after) there
    ∙ ap (λ bytes. inside_piece place says count bytes (fault_inside quote bytes)) (sym is)
    ∙ ap (inside_piece place says count inside) bad

pub returns-in-Ok-clause-piece : goal.returns-in-Ok-clause-piece
returns-in-Ok-clause-piece c = λ says.
    found c.args.quote c.args.place c.in-Some.count says c.args.after.now c.in-Ok.inside.now None (sym c.in-Some.ensures.count) (c.in-Ok.ensures.text.0 ∙ c.split_at.ensures.front)
    (ap (fault_inside c.args.quote) c.in-Ok.ensures.text.0 ∙ c.in-Ok.ensures.text.1)
    ∙ ap (λ n. token (says (meant c.in-Ok.inside.now)) (n + 2)) (sym (ap length c.in-Ok.ensures.text.0 ∙ c.split_at.ensures.front_len))

pub returns-in-Err-clause-piece : goal.returns-in-Err-clause-piece
returns-in-Err-clause-piece c = λ says.
    found c.args.quote c.args.place c.in-Some.count says c.args.after.now c.split_at.result.0.now (Some c.in-Err.at) (sym c.in-Some.ensures.count) c.split_at.ensures.front c.in-Err.ensures.text.0
