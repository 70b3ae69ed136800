-- Tags of tables that had none.
use Rattle.std.proofs.Common.{◌≡◌, ◌∙◌, refl, sym, ap, ℕ, List, [], ◌∷◌, ◌++◌, append_assoc}
use Rattle.dependency_tables.specs.Tables.{all_tags, each_with_tags, is_among, is_in_tables}
use Rattle.dependency_tables.proofs.FindingLemmas.{in_joined}
use Rattle.wave_tests.specs.Doubts.{AreOf}

behind_all : (lists : List (List ℕ)) (tag : ℕ) → all_tags (lists ++ (tag ∷ []) ∷ []) ≡ all_tags lists ++ tag ∷ []
behind_all [] tag = refl
behind_all (tags ∷ lists) tag = ap (λ l. tags ++ l) (behind_all lists tag) ∙ sym (append_assoc tags (all_tags lists) (tag ∷ []))

pub one_alone : (old new : List (List ℕ)) (list : List ℕ) (tag : ℕ) → list ≡ tag ∷ [] → new ≡ old ++ list ∷ [] → all_tags new ≡ all_tags old ++ tag ∷ []
one_alone old new list tag is more = ap all_tags more ∙ ap (λ l. all_tags (old ++ l ∷ [])) is ∙ behind_all old tag

pub of_three : (none depends found : List (List ℕ)) (tags : List ℕ) → none ≡ [] ∷ [] ∷ [] ∷ [] → all_tags found ≡ tags → depends ≡ each_with_tags none found → AreOf depends tags
of_three none depends found tags are_none all joined tag i =
    ap (λ l. is_among l tag) (sym all)
    ∙ in_joined ([] ∷ [] ∷ [] ∷ []) found tag (ap (λ l. is_in_tables l tag) (sym (joined ∙ ap (λ l. each_with_tags l found) are_none)) ∙ i)
