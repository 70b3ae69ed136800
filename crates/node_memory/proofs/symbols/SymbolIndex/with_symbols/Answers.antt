use Rattle.std.proofs.Common.{◌∙◌, ap, map, filter, Result, Ok, Err, IfOk}
use Rattle.node_memory.specs.declared.symbols.SymbolKey.{SymbolKey}
use Rattle.node_memory.specs.Symbols.{is_of}
use Rattle.node_memory.proofs.SymbolLemmas.{run_of_symbols, tags_found}
use Rattle.node_memory.proofs.symbols.SymbolIndex.with_symbols.Goals as goal

pub returns : goal.returns
returns c =
    both (λ v run ordered.
    run ∙ ap (map (λ e. e.0.tags)) (run_of_symbols c.args.joined c.args.symbols c.self.inside.keys.entries ordered) ∙ tags_found (is_of c.args.joined c.args.symbols) c.self.inside.keys.entries
    ∙ ap (λ ks. map (λ (k : SymbolKey). k.tags) (filter (is_of c.args.joined c.args.symbols) ks)) c.self.view_is) c.run_of.result c.run_of.ensures.run c.run_of.ensures.ordered
  where
    both : {T E : Type 0} {P Q R : T → Type 0} → ((x : T) → P x → Q x → R x) → (r : Result T E) → IfOk r P → IfOk r Q → IfOk r R
    both f (Ok x) p q = f x p q
    both f (Err e) p q = tt
