-- One step of passing a level on, as it goes over the values.
use Rattle.std.proofs.Common.{◌≡◌, ℕ, ◌+◌, ◌*◌, ◌<◌, ◌≤◌, ◌&&◌, not, true, false, cond, List, [], ◌∷◌, ◌++◌, length, drop, get_or, Some, subst}
use Rattle.std.proofs.lemmas.List.{at_drop_more}
use Rattle.soar_sym.specs.Equality.{symbol_eq}
use Rattle.soar_sym.specs.declared.symbol.Sym.{Sym}
use Rattle.soar_sym.specs.declared.symbol.Sym.TheVariants.{Ident}
use Rattle.defs_soar.specs.Sorted.{has_symbol}
use Rattle.level_laws.specs.Labels.{Labels}
use Rattle.level_graph.specs.Marks.{weight_of}
use Rattle.level_graph.specs.Spreading.{Passed, is_above}
use Rattle.level_graph.proofs.PassLemmas.{pass_over, pass_to}
use Rattle.level_graph.proofs.PassSteps.{has_at}
use Rattle.level_change.specs.declared.store.Store.{Store}
use Rattle.level_change.specs.Passing.{KeptBut, AreLinked, totals}
use Rattle.level_change.proofs.TotalLemmas.{lighter, kept_more}

abbrev pub Going : List Sym → List Sym → ℕ → Labels → List Sym → List Sym → ℕ → Labels → List Sym → List Sym → Type 0
Going goals values n old before old_moved i told waiting moved =
    Passed goals values n old before told waiting (drop i values)
    × ((first : Labels) → KeptBut first old old_moved → KeptBut first told moved)
    × ((links : Store) (x : Sym) → AreLinked links x values → 2 * totals weight_of told links + length waiting ≤ 2 * totals weight_of old links + length before)

pub going_over : (goals values : List Sym) (n : ℕ) (old : Labels) (before old_moved : List Sym) (i : ℕ) (told : Labels) (waiting moved : List Sym) → Going goals values n old before old_moved i told waiting moved
    → i < length values → (is_above (told (get_or values i (Ident 0 0))) n && not (has_symbol goals (get_or values i (Ident 0 0)))) ≡ false → Going goals values n old before old_moved (i + 1) told waiting moved
going_over goals values n old before old_moved i told waiting moved h lt skip = (
  pass_over goals values n old before told waiting (get_or values i (Ident 0 0)) (drop (i + 1) values) (subst (Passed goals values n old before told waiting) (at_drop_more (λ l. l) values i (Ident 0 0) lt) h.0) skip,
  h.1,
  h.2,
)

pub going_to : (goals values : List Sym) (n : ℕ) (old : Labels) (before old_moved : List Sym) (i : ℕ) (told : Labels) (waiting moved : List Sym) (next : Labels) → Going goals values n old before old_moved i told waiting moved
    → n < 4294967296 → i < length values → is_above (told (get_or values i (Ident 0 0))) n ≡ true → has_symbol goals (get_or values i (Ident 0 0)) ≡ false
    → ((s : Sym) → next s ≡ cond (symbol_eq (get_or values i (Ident 0 0)) s) (Some n) (told s))
    → Going goals values n old before old_moved (i + 1) next (waiting ++ get_or values i (Ident 0 0) ∷ []) (moved ++ get_or values i (Ident 0 0) ∷ [])
going_to goals values n old before old_moved i told waiting moved next h lim lt up ng set =
    let v : Sym = get_or values i (Ident 0 0) in (
      pass_to goals values n old before told waiting v (drop (i + 1) values) next (subst (Passed goals values n old before told waiting) (at_drop_more (λ l. l) values i (Ident 0 0) lt) h.0) (has_at values i (Ident 0 0) lt) up ng set,
      (λ first k. kept_more first told next moved v (Some n) set (h.1 first k)),
      (λ links x are. lighter told next v n set lim up links x (are v (has_at values i (Ident 0 0) lt)) waiting (2 * totals weight_of old links + length before) (h.2 links x are)),
    )
