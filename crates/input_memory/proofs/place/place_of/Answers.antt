use Rattle.input_memory.proofs.PlaceLemmas.{number_told, triple_told}
use Rattle.input_memory.proofs.place.place_of.Goals as goal

pub returns-clause-told : goal.returns-clause-told
returns-clause-told c =
    triple_told c.args.triple
    (number_told c.args.triple.id c.number_of.result c.number_of.ensures.number c.number_of.ensures.symbol)
    (number_told c.args.triple.attr c.number_of-2.result c.number_of-2.ensures.number c.number_of-2.ensures.symbol)
    (number_told c.args.triple.value c.number_of-3.result c.number_of-3.ensures.number c.number_of-3.ensures.symbol)
