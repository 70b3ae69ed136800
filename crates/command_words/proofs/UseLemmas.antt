-- One use of an argument, in the rows and in what was given.
use Rattle.std.proofs.Common.{◌≡◌, ◌∙◌, ◌⊎◌, ap, refl, sym, inl, inr, Bool, true, false, List, [], ◌∷◌, ◌++◌, Option, Some, None, is_some, unwrap_or, codes, subst}
use Rattle.std.specs.Prelude.{option_map}
use Rattle.clap.specs.Walk.{Row, Text, all_of, has_row, reading_by, with_values}
use Rattle.clap.specs.declared.builder.value_parser.Reading.{Reading}
use Rattle.clap.specs.declared.parser.matches.ValueSource.{ValueSource}
use Rattle.clap.specs.declared.parser.matches.ValueSource.TheVariants.{CommandLine}
use Rattle.command_words.specs.Given.{Given, given_file}
use Rattle.command_words.proofs.Walking.{Settles, Tells, UsesOnce, UsesTwice, fails, id_of, late_kinds, option_rule}
use Rattle.command_words.proofs.RowLemmas.{all_of-others, all_of-used, has_row-all_of, without_none}

-- ---- the rows

watch_told : (how : Reading) (s : ValueSource) (text : Text) (rows : List Row) (g : Given) → Tells rows g → all_of (codes "watch") rows ≡ None
    → Tells (with_values (codes "watch") how s (text ∷ []) rows) (record g { watch = Some text })
watch_told how s text rows g t none = record {
  watch = all_of-used (codes "watch") how s (text ∷ []) rows refl ∙ ap (λ (o : Option (List Text)). Some (unwrap_or o [] ++ text ∷ [])) none;
  generate = all_of-others (codes "watch") (codes "generate") how s (text ∷ []) rows refl ∙ t.generate;
  files = ap (λ (o : Option (List Text)). unwrap_or o []) (all_of-others (codes "watch") (codes "file") how s (text ∷ []) rows refl) ∙ t.files;
}

generate_told : (how : Reading) (s : ValueSource) (text : Text) (rows : List Row) (g : Given) → Tells rows g → all_of (codes "generate") rows ≡ None
    → Tells (with_values (codes "generate") how s (text ∷ []) rows) (record g { generate = Some text })
generate_told how s text rows g t none = record {
  watch = all_of-others (codes "generate") (codes "watch") how s (text ∷ []) rows refl ∙ t.watch;
  generate = all_of-used (codes "generate") how s (text ∷ []) rows refl ∙ ap (λ (o : Option (List Text)). Some (unwrap_or o [] ++ text ∷ [])) none;
  files = ap (λ (o : Option (List Text)). unwrap_or o []) (all_of-others (codes "generate") (codes "file") how s (text ∷ []) rows refl) ∙ t.files;
}

file_told : (how : Reading) (s : ValueSource) (name : Text) (rows : List Row) (g : Given) → Tells rows g
    → Tells (with_values (codes "file") how s (name ∷ []) rows) (given_file name g)
file_told how s name rows g t = record {
  watch = all_of-others (codes "file") (codes "watch") how s (name ∷ []) rows refl ∙ t.watch;
  generate = all_of-others (codes "file") (codes "generate") how s (name ∷ []) rows refl ∙ t.generate;
  files = ap (λ (o : Option (List Text)). unwrap_or o []) (all_of-used (codes "file") how s (name ∷ []) rows refl) ∙ ap (λ (all : List Text). all ++ name ∷ []) t.files;
}

-- ---- a name of a file

pub file_settles : (name : Text) (rows : List Row) (g : Given) → Tells rows g → Settles rows (Some (codes "file", name ∷ [])) (given_file name g)
file_settles name rows g t = (refl, file_told _ _ name rows g t)

-- ---- an option

no_row : (id : Text) (rows : List Row) → all_of id rows ≡ None → has_row id rows ≡ false
no_row id rows none = has_row-all_of id rows ∙ ap is_some none

watch_once : (text : Text) (rows : List Row) (g : Given) → Tells rows g → g.watch ≡ None → UsesOnce true text rows g
watch_once text rows g t none =
    let empty : all_of (codes "watch") rows ≡ None = t.watch ∙ ap (option_map (λ text. text ∷ [])) none in
    let absent = no_row (codes "watch") rows empty in
    let kept = without_none (codes "watch") rows absent in (
      record g { watch = Some text },
      rw none refl,
      simp absent refl,
      subst (λ (rest : List Row). Tells (with_values (codes "watch") (reading_by (option_rule true)) CommandLine (text ∷ []) rest) (record g { watch = Some text })) (sym kept) (watch_told _ _ text rows g t empty),
    )

watch_twice : (text other : Text) (rows : List Row) (g : Given) → Tells rows g → g.watch ≡ Some other → UsesTwice true text rows g
watch_twice text other rows g t some =
    let there : has_row (codes "watch") rows ≡ true = has_row-all_of (codes "watch") rows ∙ ap is_some (t.watch ∙ ap (option_map (λ text. text ∷ [])) some) in
    (rw some refl, simp there refl)

generate_once : (text : Text) (rows : List Row) (g : Given) → Tells rows g → g.generate ≡ None → UsesOnce false text rows g
generate_once text rows g t none =
    let empty : all_of (codes "generate") rows ≡ None = t.generate ∙ ap (option_map (λ text. text ∷ [])) none in
    let absent = no_row (codes "generate") rows empty in
    let kept = without_none (codes "generate") rows absent in (
      record g { generate = Some text },
      rw none refl,
      simp absent refl,
      subst (λ (rest : List Row). Tells (with_values (codes "generate") (reading_by (option_rule false)) CommandLine (text ∷ []) rest) (record g { generate = Some text })) (sym kept) (generate_told _ _ text rows g t empty),
    )

generate_twice : (text other : Text) (rows : List Row) (g : Given) → Tells rows g → g.generate ≡ Some other → UsesTwice false text rows g
generate_twice text other rows g t some =
    let there : has_row (codes "generate") rows ≡ true = has_row-all_of (codes "generate") rows ∙ ap is_some (t.generate ∙ ap (option_map (λ text. text ∷ [])) some) in
    (rw some refl, simp there refl)

pub option_used : (is_watch : Bool) (text : Text) (rows : List Row) (g : Given) → Tells rows g → UsesOnce is_watch text rows g ⊎ UsesTwice is_watch text rows g
option_used true text rows g t = go g.watch refl
  where
    go : (o : Option Text) → g.watch ≡ o → UsesOnce true text rows g ⊎ UsesTwice true text rows g
    go None e = inl (watch_once text rows g t e)
    go (Some other) e = inr (watch_twice text other rows g t e)
option_used false text rows g t = go g.generate refl
  where
    go : (o : Option Text) → g.generate ≡ o → UsesOnce false text rows g ⊎ UsesTwice false text rows g
    go None e = inl (generate_once text rows g t e)
    go (Some other) e = inr (generate_twice text other rows g t e)

-- what waits for its value has none yet, and then this one
pub no_value_late : (is_watch : Bool) (rows : List Row) → fails (late_kinds rows (Some (id_of is_watch, []))) ≡ true
no_value_late true rows = refl
no_value_late false rows = refl
