-- Productions are read exactly, with any limit of brackets.
use Rattle.std.specs.Prelude.{◌↔◌, max, codes}
use Rattle.std.proofs.Common.{◌≡◌, refl, sym, ◌∙◌, ap, true, false, [], ◌∷◌, ◌++◌, List, ℕ, suc, Bool, Option, Some, None, Ok, flat_map}
use Rattle.defs_text.specs.Lexing.{Saying, mark, arrow, word_of, documentation}
use Rattle.defs_read.specs.Grammar.{Part, grouped, joined, ActionTree, Flag, Tree}
use Rattle.defs_read.specs.Readers.{then_read, begins, token, taken, many, optional}
use Rattle.defs_read.specs.ReadingTokens.{ReadOf, is_mark, is_arrow, is_bare}
use Rattle.defs_read.specs.Reading.{begins_part, part_at, parts_of, flags_at}
use Rattle.defs_read.specs.ReadingActions.{as_name, as_documentation, is_documentation, action_at}
use Rattle.defs_read.specs.Spelling.{Tokens, bare_word, spelled_option, spelled_part, spelled_action, spelling}
use Rattle.reading_laws.specs.Lawful.{AllOf, IfThere, AreFlags, IsAction, Lawful}
use Rattle.reading_laws.specs.Brackets.{most, part_brackets, parts_brackets, brackets}
use Rattle.reading_laws.proofs.ReaderLaws.{Exact, Always, append_assoc}
use Rattle.reading_laws.proofs.ChoiceLaws.{named_exact}
use Rattle.reading_laws.proofs.PieceLaws.{Spelled, Any, piece_exact, last_exact, piece_done, optional_exact, named_part}
use Rattle.reading_laws.proofs.LimitLaws.{Within, fits_both, fits_left, fits_right, all_within}
use Rattle.reading_laws.proofs.TokenLaws.{mark_part, bare_part, arrow_part}
use Rattle.reading_laws.proofs.FieldLaws.{after_optional}
use Rattle.reading_laws.proofs.PartLaws.{PartOk, part_exact, parts_exact, parts_within, list_of, parts_again, list_again, spelled_list}
use Rattle.reading_laws.proofs.ActionLaws.{action_all, ActionOk, actions_exact}
use Rattle.reading_laws.proofs.FlagLaws.{spelled_one, is_flag, flags_exact}

-- ---- the name and the documentation

name_part : Exact (Spelled (λ (n : List ℕ × Bool). word_of n.0 n.1 ∷ []) Any) (Spelled (λ (n : List ℕ × Bool). word_of n.0 n.1 ∷ []) Any) Always (taken as_name)
name_part = named_part as_name (λ (n : List ℕ × Bool). word_of n.0 n.1) (named_exact as_name (λ (n : List ℕ × Bool). word_of n.0 n.1) (record { back = λ n. refl; only = only }) ([], true))
  where
    only : (t : Saying) (n : List ℕ × Bool) → as_name t ≡ Some n → t ≡ word_of n.0 n.1
    only (word_of text bare) n e = let f : (text, bare) ≡ n = cc in ap (λ (k : List ℕ × Bool). word_of k.0 k.1) f
    only (mark b) n e = absurd (cc)
    only _ n e = absurd (cc)

documentation_part : Exact (Spelled (λ text. documentation text ∷ []) Any) (Spelled (λ text. documentation text ∷ []) Any) Always (taken as_documentation)
documentation_part = named_part as_documentation (λ text. documentation text) (named_exact as_documentation (λ text. documentation text) (record { back = λ a. refl; only = only }) [])
  where
    only : (t : Saying) (a : List ℕ) → as_documentation t ≡ Some a → t ≡ documentation a
    only (documentation text) a e = let f : a ≡ text = cc in ap (λ x. documentation x) (sym f)
    only (mark b) a e = absurd (cc)
    only _ a e = absurd (cc)

-- ---- what does not begin a condition

part_no_flag : (p : Part) (rest : Tokens) → begins is_flag (spelled_part p ++ rest) ≡ false
part_no_flag (grouped true g) rest = refl
part_no_flag (grouped false g) rest = refl
part_no_flag (joined true p ps) rest = refl
part_no_flag (joined false p ps) rest = refl

part_no_documentation : (p : Part) (rest : Tokens) → begins is_documentation (spelled_part p ++ rest) ≡ false
part_no_documentation (grouped true g) rest = refl
part_no_documentation (grouped false g) rest = refl
part_no_documentation (joined true p ps) rest = refl
part_no_documentation (joined false p ps) rest = refl

-- ---- a production

-- as it is read, where so many brackets may open inside one
abbrev pub production_with : ℕ → Tokens → ReadOf Tree
production_with d ts =
    then_read (token (is_bare (codes "sp")) ts) (λ _ rest. then_read (token (is_mark 123) rest) (λ _ rest. then_read (taken as_name rest) (λ name rest.
    then_read (optional is_documentation (taken as_documentation) rest) (λ doc rest. then_read (flags_at rest) (λ flags rest.
    then_read (part_at (suc d) rest) (λ part rest. then_read (many begins_part (part_at (suc d)) rest) (λ parts rest. then_read (token is_arrow rest) (λ _ rest.
    then_read (many (is_mark 40) (action_at d) rest) (λ actions rest. then_read (token (is_mark 125) rest) (λ _ rest.
    Ok (record { name = name.0; bare = name.1; doc = doc; flags = flags; part = part; parts = parts_of parts; actions = actions }, rest)))))))))))

abbrev pub TreeOk : Option ℕ → Tree → Type 0
TreeOk = Within Lawful brackets

abbrev spelled_doc : Option (List ℕ) → Tokens
spelled_doc = spelled_option (λ text. documentation text ∷ [])

abbrev spelled_flags : List Flag → Tokens
spelled_flags fs = flat_map (λ f. spelled_one f ∷ []) fs

abbrev ActionTail : Tree → Tokens
ActionTail t = flat_map spelled_action t.actions ++ (mark 125 ∷ [])

abbrev PartTail : Tree → Tokens
PartTail t = spelled_part t.part ++ (flat_map spelled_part (list_of t.parts) ++ (arrow ∷ ActionTail t))

abbrev NameTail : Tree → Tokens
NameTail t = spelled_doc t.doc ++ (spelled_flags t.flags ++ PartTail t)

abbrev TreeParts : Option ℕ → Tree → Type 0
TreeParts m t = Unit {0} × (Unit {0} × (Unit {0} × (IfThere Any t.doc × (AreFlags t.flags × (PartOk m t.part × (AllOf (PartOk m) (list_of t.parts) × (Unit {0} × (AllOf (ActionOk m) t.actions × Unit {0}))))))))

any_there : {A : Type 0} (o : Option A) → IfThere Any o
any_there (Some a) = tt
any_there None = tt

whole_tree : (m : Option ℕ) (t : Tree) → TreeParts m t ↔ TreeOk m t
whole_tree m t = (there, back)
  where
    there : TreeParts m t → TreeOk m t
    there h =
        let k = h.1.1.1.1 in let p = (parts_within m t.parts).0 k.1.1.0 in let a = (all_within IsAction action_all m t.actions).0 k.1.1.1.1.0 in
        ((k.0, k.1.0.0, p.0, a.0), fits_both m (part_brackets t.part) (max (parts_brackets t.parts) (most action_all t.actions)) k.1.0.1 (fits_both m (parts_brackets t.parts) (most action_all t.actions) p.1 a.1))

    back : TreeOk m t → TreeParts m t
    back h =
        let more = fits_right m (part_brackets t.part) (max (parts_brackets t.parts) (most action_all t.actions)) h.1 in
        let p = fits_left m (parts_brackets t.parts) (most action_all t.actions) more in let a = fits_right m (parts_brackets t.parts) (most action_all t.actions) more in (
          tt,
          (
            tt,
            (
              tt,
              (
                any_there t.doc,
                (
                  h.0.0,
                  (
                    (h.0.1, fits_left m (part_brackets t.part) (max (parts_brackets t.parts) (most action_all t.actions)) h.1),
                    ((parts_within m t.parts).1 (h.0.2, p), (tt, ((all_within IsAction action_all m t.actions).1 (h.0.3, a), tt))),
                  ),
                ),
              ),
            ),
          ),
        )

tree_spelled : (t : Tree) → bare_word (codes "sp") ∷ (mark 123 ∷ (word_of t.name t.bare ∷ NameTail t)) ≡ spelling t
tree_spelled t = ap (λ k. bare_word (codes "sp") ∷ (mark 123 ∷ (word_of t.name t.bare ∷ (spelled_doc t.doc ++ (spelled_flags t.flags ++ (spelled_part t.part ++ (k ++ (arrow ∷ ActionTail t)))))))) (spelled_list t.parts)

tree_again : (t : Tree) (n : List ℕ × Bool) (d : Option (List ℕ)) (f : List Flag) (p : Part) (ps : List Part) (a : List ActionTree)
    → (t.name, t.bare) ≡ n → t.doc ≡ d → t.flags ≡ f → t.part ≡ p → list_of t.parts ≡ ps → t.actions ≡ a
    → ◌≡◌ {A = Tree} (record { name = n.0; bare = n.1; doc = d; flags = f; part = p; parts = parts_of ps; actions = a }) t
tree_again t n d f p ps a en ed ef ep eps ea =
    λ i. record { name = (sym en i).0; bare = (sym en i).1; doc = sym ed i; flags = sym ef i; part = sym ep i; parts = (ap parts_of (sym eps) ∙ parts_again t.parts) i; actions = sym ea i }

pub production_exact : (d : ℕ) → Exact (Spelled spelling (TreeOk (Some (suc d)))) (Spelled spelling (TreeOk None)) Always (production_with d)
production_exact d =
    piece_done (λ t. bare_word (codes "sp") ∷ (mark 123 ∷ (word_of t.name t.bare ∷ NameTail t))) spelling tree_spelled (whole_tree (Some (suc d))) (whole_tree None)
    (piece_exact {Of = λ t. Unit {0}} (λ (t : Tree). record {}) (λ _. bare_word (codes "sp") ∷ []) (λ t. mark 123 ∷ (word_of t.name t.bare ∷ NameTail t)) (bare_part (codes "sp"))
    (λ _. piece_exact (λ (t : Tree). record {}) (λ _. mark 123 ∷ []) (λ t. word_of t.name t.bare ∷ NameTail t) (mark_part 123)
    (λ _. piece_exact (λ (t : Tree). (t.name, t.bare)) (λ n. word_of n.0 n.1 ∷ []) NameTail name_part
    (λ name. piece_exact (λ (t : Tree). t.doc) spelled_doc (λ t. spelled_flags t.flags ++ PartTail t)
    (optional_exact is_documentation (λ text. documentation text ∷ []) Any Any (taken as_documentation) documentation_part (λ text rest l. refl))
    (λ doc. piece_exact (λ (t : Tree). t.flags) spelled_flags PartTail flags_exact
    (λ flags. piece_exact (λ (t : Tree). t.part) spelled_part (λ t. flat_map spelled_part (list_of t.parts) ++ (arrow ∷ ActionTail t)) (part_exact (suc d))
    (λ part. piece_exact (λ (t : Tree). list_of t.parts) (flat_map spelled_part) (λ t. arrow ∷ ActionTail t) (parts_exact (suc d) (part_exact (suc d)))
    (λ parts. piece_exact (λ (t : Tree). record {}) (λ _. arrow ∷ []) ActionTail arrow_part
    (λ _. piece_exact (λ (t : Tree). t.actions) (flat_map spelled_action) (λ t. mark 125 ∷ []) (actions_exact d)
    (λ actions. last_exact (λ (t : Tree). record {}) (λ _. mark 125 ∷ []) (λ _. record { name = name.0; bare = name.1; doc = doc; flags = flags; part = part; parts = parts_of parts; actions = actions }) (mark_part 125)
    (λ _. (((((((((tt, refl), refl), refl), refl), refl), refl), list_again parts), refl), refl)) (λ _. refl)
    (λ t k. tree_again t name doc flags part parts actions k.0.0.0.0.0.0.1 k.0.0.0.0.0.1 k.0.0.0.0.1 k.0.0.0.1 k.0.0.1 k.1))
    (λ t rest l s. refl))
    (λ t rest l s. tt))
    (λ t rest l s. refl))
    (λ t rest l s. tt))
    (λ t rest l s. ap (begins is_flag) (append_assoc (spelled_part t.part) (flat_map spelled_part (list_of t.parts) ++ (arrow ∷ ActionTail t)) rest) ∙ part_no_flag t.part ((flat_map spelled_part (list_of t.parts) ++ (arrow ∷ ActionTail t)) ++ rest)))
    (λ t rest l s. after_optional is_documentation t.doc ((spelled_flags t.flags ++ PartTail t) ++ rest) (flags_first t.flags t rest)))
    (λ t rest l s. tt))
    (λ t rest l s. tt))
    (λ t rest l s. tt))
  where
    flags_first : (fs : List Flag) (t : Tree) (rest : Tokens) → begins is_documentation ((spelled_flags fs ++ PartTail t) ++ rest) ≡ false
    flags_first [] t rest = ap (begins is_documentation) (append_assoc (spelled_part t.part) (flat_map spelled_part (list_of t.parts) ++ (arrow ∷ ActionTail t)) rest) ∙ part_no_documentation t.part ((flat_map spelled_part (list_of t.parts) ++ (arrow ∷ ActionTail t)) ++ rest)
    flags_first (f ∷ fs) t rest = refl
