-- What is kept of the state that was settled last, while preference memory changes, and when all is settled anew.
use Rattle.std.proofs.Common.{◌≡◌, refl, sym, ap, subst, ◌∙◌, arith, ℕ, ◌≤◌, Bool, true, false, ◌||◌, inl, inr, List, [], ◌∷◌, ◌++◌, map, Result, Ok, Err, OnOk}
use Rattle.std.specs.List.{list_any}
use Rattle.soar_sym.specs.Words.{Texts}
use Rattle.soar_sym.specs.declared.symbol.Sym.{Sym}
use Rattle.soar_sym.specs.declared.symbol.Triple.{Triple}
use Rattle.soar_wm.specs.WorkingMemory.{IsGiven, WorkingMemory, triple_of}
use Rattle.soar_wm.specs.declared.element.Element.{Element}
use Rattle.soar_sym.specs.declared.symbol.Sym.TheVariants.{Ident}
use Rattle.defs_soar.specs.declared.goal.Goal.{Goal}
use Rattle.defs_soar.specs.declared.goal.Impasse.TheVariants as why
use Rattle.defs_soar.specs.Decision.{new_goal}
use Rattle.defs_soar.specs.Goals.{goal_ids}
use Rattle.defs_soar.specs.Start.{first_elements, first_letters}
use Rattle.defs_soar.specs.declared.preference.Preference.{Preference}
use Rattle.defs_soar.specs.Laws.{IsIn}
use Rattle.defs_soar.specs.Settling.{elements_after, kept_triples}
use Rattle.defs_soar.specs.Sorted.{has_symbol}
use Rattle.defs_soar.specs.Values.{has_triple_among}
use Rattle.learning_laws.specs.LawfulAgents.{EachOnce, IsNumbered}
use Rattle.learning_laws.proofs.AfterLaws.{each_has, is_after}
use Rattle.learning_laws.proofs.TripleLaws.{IsKnownTriple, among_in, in_among}
use Rattle.soar_prefs.specs.Memory.{PreferenceMemory, has_plain}
use Rattle.soar_settle.specs.Known.{AreTriplesKnown}
use Rattle.kept_triples.specs.Kept.{HoldsTriples, KeptOf, OwnIs}
use Rattle.settle_changes.specs.Rest.{IsAtRest, IsTracked, NothingIsAtRest, RestIsKept, settled_from}
use Rattle.wave_parts.specs.KeptUp.{IsKeptUp}
use Rattle.wave_parts.specs.Seen.{AreGoalsKnown, IsGoalKnown}

-- rows come and go, and those of the settled state stay the same
pub kept_renewed : (old new : PreferenceMemory) (inputs changed : List Triple) (kept : KeptOf) (elements : List Element) → new.settled ≡ old.settled
    → IsKeptUp old inputs changed kept elements → IsKeptUp new inputs changed kept elements
kept_renewed old new inputs changed kept elements same k =
    let t = k.tracked in
    record {
      tracked = record {
        goals_then = t.goals_then;
        inputs_then = t.inputs_then;
        rest = subst (λ (rows : List Preference). IsAtRest t.goals_then rows t.inputs_then kept) (sym same) t.rest;
        covers = t.covers;
      };
      memory_is = k.memory_is;
      flags = k.flags;
    }

any_of_both : {A : Type 0} (p : A → Bool) (xs ys : List A) → list_any p (xs ++ ys) ≡ (list_any p xs || list_any p ys)
any_of_both p [] ys = refl
any_of_both p (x ∷ xs) ys = by (p x) (any_of_both p xs ys)
  where
    by : (b : Bool) → list_any p (xs ++ ys) ≡ (list_any p xs || list_any p ys) → (b || list_any p (xs ++ ys)) ≡ ((b || list_any p xs) || list_any p ys)
    by true later = refl
    by false later = later

neither : (a b : Bool) → (a || b) ≡ false → (a ≡ false) × (b ≡ false)
neither true b h = absurd (cc)
neither false b h = (refl, h)

-- inputs come and go, and more of them are named
pub kept_covered : (prefs : PreferenceMemory) (old new changed more : List Triple) (kept : KeptOf) (elements : List Element)
    → ((t : Triple) → has_plain more t ≡ false → has_triple_among new t ≡ has_triple_among old t) → IsKeptUp prefs old changed kept elements → IsKeptUp prefs new (changed ++ more) kept elements
kept_covered prefs old new changed more kept elements covers k =
    let t = k.tracked in
    record {
      tracked = record {
        goals_then = t.goals_then;
        inputs_then = t.inputs_then;
        rest = t.rest;
        covers = λ u h. let parts = neither (has_plain changed u) (has_plain more u) (sym (any_of_both _ changed more) ∙ h) in covers u parts.1 ∙ t.covers u parts.0;
      };
      memory_is = k.memory_is;
      flags = k.flags;
    }

-- ---- all settled anew

-- what settling leaves, and what working memory is made of it
pub record IsNewlyKept (words : Texts) (goals : List Goal) (prefs : PreferenceMemory) (inputs changed : List Triple) (kept : KeptOf) (last : ℕ) (elements after : List Element) : Type 0 where
  pub rest : IsAtRest goals prefs.rows inputs kept
  pub taken : prefs.settled ≡ prefs.rows
  pub none : changed ≡ []
  pub after_is : after ≡ elements_after words goals (kept_triples goals (record { rows = prefs.rows; inputs = inputs })) last elements
  pub members : (t : Triple) → has_triple_among kept.triples t ≡ has_triple_among (kept_triples goals (record { rows = prefs.rows; inputs = inputs })) t
  pub once : EachOnce words
  pub known : AreTriplesKnown words (kept_triples goals (record { rows = prefs.rows; inputs = inputs }))
  pub small : (e : Element) → IsIn e elements → e.tag ≤ last

same_answers : (a b : Bool) → (a ≡ true → b ≡ true) → (b ≡ true → a ≡ true) → a ≡ b
same_answers true b there back = sym (there refl)
same_answers false true there back = back refl
same_answers false false there back = refl

triple_known : (words : Texts) (triples : List Triple) (t : Triple) → AreTriplesKnown words triples → IsIn t triples → IsKnownTriple words t
triple_known words [] t known is = absurd is
triple_known words (u ∷ triples) t known (inl e) = subst (IsKnownTriple words) e known.0
triple_known words (u ∷ triples) t known (inr is) = triple_known words triples t known.1 is

-- what has the members of a known list is known
pub those_known : (words : Texts) (all triples : List Triple) → ((t : Triple) → has_triple_among triples t ≡ has_triple_among all t) → AreTriplesKnown words all
    → (t : Triple) → has_triple_among triples t ≡ true → IsKnownTriple words t
those_known words all triples members known t h = triple_known words all t known (among_in t all (sym (members t) ∙ h))

module _ (words : Texts) (goals : List Goal) (prefs : PreferenceMemory) (inputs changed : List Triple) (kept : KeptOf) (last : ℕ) (elements after : List Element)
    (n : IsNewlyKept words goals prefs inputs changed kept last elements after) where
  abbrev all : List Triple
  all = kept_triples goals (record { rows = prefs.rows; inputs = inputs })

  abbrev made : List Element
  made = elements_after words goals all last elements

  made_has : (t : Triple) → has_triple_among all t ≡ has_triple_among (map triple_of made) t
  made_has t =
      same_answers (has_triple_among all t) (has_triple_among (map triple_of made) t)
      (λ h. in_among t (map triple_of made) (each_has words goals all last elements n.small n.once (λ u is. triple_known words all u n.known is) t (among_in t all h)))
      (λ h. in_among t all (of_made made (λ e is. (is_after words goals all last elements n.small e is).triple) (among_in t (map triple_of made) h)))
    where
      of_made : (es : List Element) → ((e : Element) → IsIn e es → IsIn (triple_of e) all) → IsIn t (map triple_of es) → IsIn t all
      of_made [] within is = absurd is
      of_made (e ∷ es) within (inl q) = subst (λ u. IsIn u all) q (within e (inl refl))
      of_made (e ∷ es) within (inr is) = of_made es (λ x i. within x (inr i)) is

  pub newly_kept : IsKeptUp prefs inputs changed kept after
  newly_kept = record {
    tracked = record {
      goals_then = goals;
      inputs_then = inputs;
      rest = subst (λ (rows : List Preference). IsAtRest goals rows inputs kept) (sym n.taken) n.rest;
      covers = λ t h. refl;
    };
    memory_is = λ t. n.members t ∙ made_has t ∙ ap (λ (es : List Element). has_triple_among (map triple_of es) t) (sym n.after_is);
    flags = λ e is. (is_after words goals all last elements n.small e (subst (λ (es : List Element). IsIn e es) n.after_is is)).flag ∙ ap (λ (ids : List Sym). has_symbol ids e.id) (sym n.rest.own.ids);
  }

-- the tags that were given are at most the last
pub tags_small : (last : ℕ) (elements : List Element) → IsGiven last elements → (e : Element) → IsIn e elements → e.tag ≤ last
tags_small last [] given e is = absurd is
tags_small last (x ∷ elements) given e (inl q) = subst (λ (y : Element). y.tag ≤ last) q given.1
tags_small last (x ∷ elements) given e (inr is) = tags_small last elements given.2 e is

-- ---- at the start

abbrev first_goals : List Goal
first_goals = new_goal (Ident 83 1) why.Top [] ∷ []

first_flags : (e : Element) → IsIn e first_elements → e.of_state ≡ has_symbol (goal_ids first_goals) e.id
first_flags e (inl q) = subst (λ (x : Element). x.of_state ≡ has_symbol (goal_ids first_goals) x.id) q refl
first_flags e (inr (inl q)) = subst (λ (x : Element). x.of_state ≡ has_symbol (goal_ids first_goals) x.id) q refl
first_flags e (inr (inr (inl q))) = subst (λ (x : Element). x.of_state ≡ has_symbol (goal_ids first_goals) x.id) q refl
first_flags e (inr (inr (inr (inl q)))) = subst (λ (x : Element). x.of_state ≡ has_symbol (goal_ids first_goals) x.id) q refl
first_flags e (inr (inr (inr (inr (inl q))))) = subst (λ (x : Element). x.of_state ≡ has_symbol (goal_ids first_goals) x.id) q refl
first_flags e (inr (inr (inr (inr (inr is))))) = absurd is

-- the triples of the first elements are those that are kept of the top goal alone
first_kept : kept_triples first_goals (record { rows = []; inputs = [] }) ≡ map triple_of first_elements
first_kept = refl

-- what settling leaves of nothing
pub first_rest : (goals : List Goal) (old new : PreferenceMemory) (inputs now : List Triple) (kept : KeptOf) → old.rows ≡ [] → inputs ≡ []
    → new ≡ record old { rows = (settled_from goals old.rows inputs).rows; settled = (settled_from goals old.rows inputs).rows } → now ≡ (settled_from goals old.rows inputs).inputs
    → IsAtRest goals new.rows now kept → IsAtRest goals [] [] kept
first_rest goals old new inputs now kept none empty prefs_are inputs_are rest =
    let rows : new.rows ≡ [] = ap (λ (p : PreferenceMemory). p.rows) prefs_are ∙ (λ i. (settled_from goals (none i) (empty i)).rows) in
    let left : now ≡ [] = inputs_are ∙ (λ i. (settled_from goals (none i) (empty i)).inputs) in
    subst (λ (l : List Triple). IsAtRest goals [] l kept) left (subst (λ (r : List Preference). IsAtRest goals r now kept) rows rest)

-- where it goes well
pub first_rest_ok : {T E : Type 0} (result : Result T E) (goals : List Goal) (old new : PreferenceMemory) (inputs now : List Triple) (kept : KeptOf) → old.rows ≡ [] → inputs ≡ []
    → OnOk result (new ≡ record old { rows = (settled_from goals old.rows inputs).rows; settled = (settled_from goals old.rows inputs).rows }) → OnOk result (now ≡ (settled_from goals old.rows inputs).inputs)
    → OnOk result (IsAtRest goals new.rows now kept) → OnOk result (IsAtRest goals [] [] kept)
first_rest_ok (Ok x) goals old new inputs now kept none empty prefs_are inputs_are rest = first_rest goals old new inputs now kept none empty prefs_are inputs_are rest
first_rest_ok (Err fault) goals old new inputs now kept none empty prefs_are inputs_are rest = tt

-- nothing is kept yet, and nothing changed
pub nothing_tracked : NothingIsAtRest → (prefs : PreferenceMemory) (inputs changed : List Triple) (kept : KeptOf) → HoldsTriples [] [] [] kept → OwnIs [] kept → prefs.settled ≡ [] → inputs ≡ []
    → IsTracked prefs inputs changed kept
nothing_tracked law prefs inputs changed kept holds own settled_is inputs_are = record {
  goals_then = [];
  inputs_then = [];
  rest = subst (λ (rows : List Preference). IsAtRest [] rows [] kept) (sym settled_is) (law kept holds own);
  covers = λ t h. ap (λ (l : List Triple). has_triple_among l t) inputs_are;
}

pub first_kept_up : RestIsKept → (goals listed : List Goal) (prefs : PreferenceMemory) (inputs changed : List Triple) (kept : KeptOf) (memory : WorkingMemory) → goals ≡ first_goals → listed ≡ goals
    → prefs ≡ record { rows = []; limit = 1000000; settled = [] } → inputs ≡ [] → IsAtRest listed [] [] kept → memory ≡ record { elements = first_elements; limit = 4000000; last = 5 }
    → IsKeptUp prefs inputs changed kept memory.elements
first_kept_up law goals listed prefs inputs changed kept memory goals_are listed_is prefs_are inputs_are rest memory_is =
    let same : listed ≡ first_goals = listed_is ∙ goals_are in
    let elements_are : memory.elements ≡ first_elements = ap (λ (m : WorkingMemory). m.elements) memory_is in
    record {
      tracked = record {
        goals_then = listed;
        inputs_then = [];
        rest = subst (λ (rows : List Preference). IsAtRest listed rows [] kept) (sym (ap (λ (p : PreferenceMemory). p.settled) prefs_are)) rest;
        covers = λ t h. ap (λ (l : List Triple). has_triple_among l t) inputs_are;
      };
      memory_is = λ t.
          law listed [] [] kept rest t
          ∙ ap (λ (gs : List Goal). has_triple_among (kept_triples gs (record { rows = []; inputs = [] })) t) same
          ∙ ap (λ (l : List Triple). has_triple_among l t) first_kept
          ∙ ap (λ (es : List Element). has_triple_among (map triple_of es) t) (sym elements_are);
      flags = λ e is.
          first_flags e (subst (λ (es : List Element). IsIn e es) elements_are is)
          ∙ ap (λ (gs : List Goal). has_symbol (goal_ids gs) e.id) (sym same)
          ∙ ap (λ (ids : List Sym). has_symbol ids e.id) (sym rest.own.ids);
    }

-- the letters gave the top goal's identifier, and it has no items and no operator
pub first_goals_known : (words : Texts) (letters : List ℕ) (goals : List Goal) → goals ≡ first_goals → letters ≡ first_letters → AreGoalsKnown words letters goals
first_goals_known words letters goals goals_are letters_are g is = by (subst (λ (gs : List Goal). IsIn g gs) goals_are is)
  where
    by : IsIn g first_goals → IsGoalKnown words letters g
    by (inl q) =
        subst (IsGoalKnown words letters) q (record {
          id_known = (omega arith, omega arith);
          id_numbered = subst (λ (l : List ℕ). IsNumbered l (Ident 83 1)) (sym letters_are) (omega arith);
          items_known = λ item none. absurd none;
          selection_known = tt;
        })
    by (inr none) = absurd none
