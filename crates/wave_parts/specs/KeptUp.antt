-- What is kept of a state, and what working memory has of it.
use Rattle.std.specs.Prelude.{◌≡◌, List, map}
use Rattle.soar_sym.specs.declared.symbol.Triple.{Triple}
use Rattle.soar_wm.specs.declared.element.Element.{Element}
use Rattle.soar_wm.specs.WorkingMemory.{triple_of}
use Rattle.defs_soar.specs.Laws.{IsIn}
use Rattle.defs_soar.specs.Sorted.{has_symbol}
use Rattle.defs_soar.specs.Values.{has_triple_among}
use Rattle.soar_prefs.specs.Memory.{PreferenceMemory}
use Rattle.kept_triples.specs.Kept.{KeptOf}
use Rattle.settle_changes.specs.Rest.{IsTracked}

-- What is kept is that of the state that was settled last, what changed since is told, and working memory was made of what is kept.
pub record IsKeptUp (prefs : PreferenceMemory) (inputs changed : List Triple) (kept : KeptOf) (elements : List Element) : Type 0 where
  pub tracked : IsTracked prefs inputs changed kept
  pub memory_is : (t : Triple) → has_triple_among kept.triples t ≡ has_triple_among (map triple_of elements) t
  pub flags : (e : Element) → IsIn e elements → e.of_state ≡ has_symbol kept.ids e.id
