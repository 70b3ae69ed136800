-- What is printed is read back.
use Rattle.std.specs.Prelude.{flat_map, map, take}
use Rattle.std.proofs.Common.{◌≡◌, refl, sym, ◌∙◌, ap, ap₂, [], ◌∷◌, ◌++◌, List, ℕ, suc, Some, length, ◌≤◌, arith}
use Rattle.soar_sym.specs.Words.{Texts, with_texts}
use Rattle.soar_sym.specs.declared.symbol.Sym.{Sym}
use Rattle.soar_rule.specs.declared.production.Kind.{Kind}
use Rattle.soar_rule.specs.declared.production.Kind.TheVariants as kind
use Rattle.soar_rule.specs.declared.production.Support.{Support}
use Rattle.soar_rule.specs.declared.production.Support.TheVariants as support
use Rattle.soar_rule.specs.Conditions.{Condition, Conditions, no_more, condition_and, all_of}
use Rattle.soar_rule.specs.Productions.{ProductionOf}
use Rattle.soar_rule.specs.Variables.{variables_of_conditions, variables_of_action}
use Rattle.defs_text.specs.Lexing.{Lexed, lexed}
use Rattle.defs_text.specs.Numbered.{word_in, words_after}
use Rattle.defs_read.specs.ActionExpansion.{actions_of}
use Rattle.defs_read.specs.ConditionExpansion.{parts_conditions}
use Rattle.defs_read.specs.Expansion.{names_in, support_of, kind_of, ProductionRead, read_as, production_of}
use Rattle.defs_read.specs.FreshNames.{Fresh, Expanded}
use Rattle.defs_read.specs.Grammar.{part_and}
use Rattle.defs_read.specs.PrintingConditions.{Naming, bare_text}
use Rattle.defs_read.specs.ReadingActions.{tree_of}
use Rattle.defs_read.specs.Sayings.{IsWordPlaced}
use Rattle.reading_laws.specs.Lawful.{AllOf}
use Rattle.reading_laws.specs.Printable.{IsNaming, IsSome, met_after, IsPrintable}
use Rattle.reading_laws.specs.TreeBack.{kind_back, support_back, first_back, others_back, parts_back, action_back, tree_back}
use Rattle.reading_laws.specs.WayBack.{printed, tokens_in, PrintedIsRead}
use Rattle.reading_laws.proofs.CutProduction.{cut_production}
use Rattle.reading_laws.proofs.ExactLaws.{spelled_is_read}
use Rattle.reading_laws.proofs.ExpandActions.{actions_again}
use Rattle.reading_laws.proofs.ExpandConditions.{listed, all_listed, parts_again}
use Rattle.reading_laws.proofs.ExpandFields.{Setting, names_of, with_met}
use Rattle.reading_laws.proofs.LawfulBack.{tree_is}
use Rattle.reading_laws.proofs.NameLaws.{met_split, met_grows}
use Rattle.reading_laws.proofs.WordLaws.{word_again}

kind_again : (k : Kind) (s : Support) → (k ≡ kind.Justification → ⊥) → kind_of kind.User (kind_back k ++ support_back s) ≡ k
kind_again kind.User support.Unset h = refl
kind_again kind.User support.Operator h = refl
kind_again kind.User support.Instance h = refl
kind_again kind.Default support.Unset h = refl
kind_again kind.Default support.Operator h = refl
kind_again kind.Default support.Instance h = refl
kind_again kind.Chunk support.Unset h = refl
kind_again kind.Chunk support.Operator h = refl
kind_again kind.Chunk support.Instance h = refl
kind_again kind.Justification s h = absurd (h refl)

support_again : (k : Kind) (s : Support) → support_of support.Unset (kind_back k ++ support_back s) ≡ s
support_again kind.User support.Unset = refl
support_again kind.User support.Operator = refl
support_again kind.User support.Instance = refl
support_again kind.Default support.Unset = refl
support_again kind.Default support.Operator = refl
support_again kind.Default support.Instance = refl
support_again kind.Chunk support.Unset = refl
support_again kind.Chunk support.Operator = refl
support_again kind.Chunk support.Instance = refl
support_again kind.Justification support.Unset = refl
support_again kind.Justification support.Operator = refl
support_again kind.Justification support.Instance = refl

parts_joined : (cs : Conditions) (n : Naming) → IsSome cs → part_and (first_back cs n) (others_back cs n) ≡ parts_back cs n
parts_joined no_more n some = absurd some
parts_joined (condition_and c cs) n some = refl

no_names : (names : Texts) → take 0 names ≡ []
no_names [] = refl
no_names (name ∷ names) = refl

all_names : (names : Texts) → take (length names) names ≡ names
all_names [] = refl
all_names (name ∷ names) = ap (λ l. name ∷ l) (all_names names)

count_kept : (words : Texts) (vars : List Sym) → length (map (bare_text words) vars) ≡ length vars
count_kept words [] = refl
count_kept words (s ∷ vars) = ap (λ n. suc n) (count_kept words vars)

vars_again : (words read : Texts) (vars : List Sym) → ((s : Sym) → IsNaming words s → word_in read (bare_text words s) ≡ s) → AllOf (IsNaming words) vars → map (word_in read) (map (bare_text words) vars) ≡ vars
vars_again words read [] again h = refl
vars_again words read (s ∷ vars) again h = ap₂ (λ (x : Sym) (xs : List Sym). x ∷ xs) (again s h.0) (vars_again words read vars again h.1)

-- the parts of a production, each as it was
parts_read : (words read : Texts) (p : ProductionOf) (f : Fresh) → IsPrintable words p → ((s : Sym) → IsWordPlaced words s → word_in read (bare_text words s) ≡ s)
    → f.names ≡ map (bare_text words) p.vars → f.fresh ≡ [] → read_as read (tree_back words p) (listed p.conditions) p.actions f ≡ record { production = p; words = read }
parts_read words read p f h again names fresh =
    ap (λ fresh. whole (with_texts read fresh) f.names) fresh ∙ ap (whole read) names
    ∙ (λ i. record {
      production = record {
        name = again p.name h.name.0 i;
        doc = p.doc;
        kind = kind_again p.kind p.support h.kind i;
        support = support_again p.kind p.support i;
        vars = vars_again words read p.vars (λ s k. again s k.0) h.names i;
        conditions = all_listed p.conditions i;
        actions = p.actions;
      };
      words = read;
    })
  where
    whole : Texts → Texts → ProductionRead
    whole after names = record {
      production = record {
        name = word_in read (bare_text words p.name);
        doc = p.doc;
        kind = kind_of kind.User (kind_back p.kind ++ support_back p.support);
        support = support_of support.Unset (kind_back p.kind ++ support_back p.support);
        vars = map (word_in after) names;
        conditions = all_of (listed p.conditions);
        actions = p.actions;
      };
      words = after;
    }

-- conditions and then actions, as they are expanded
both_again : (words : Texts) (p : ProductionOf) (l : Lexed) → IsPrintable words p → production_of (words_after words l.tokens) (tokens_in l) (tree_back words p) ≡ record { production = p; words = words_after words l.tokens }
unfolding production_of
both_again words p l h =
    ap (λ f. after (parts_conditions (part_and (first_back p.conditions n) (others_back p.conditions n)) read f)) start
    ∙ ap (λ ps. after (parts_conditions ps read (with_met c 0))) (parts_joined p.conditions n h.some)
    ∙ ap after (parts_again p.conditions c h.conditions 0 s.0 s.1 (omega (arith, few, grown)))
    ∙ ap (λ x. read_as read (tree_back words p) (listed p.conditions) x.value x.names) (actions_again c p.actions h.actions s.0 (length p.vars) s.2 (omega (arith, few)))
    ∙ parts_read words read p (with_met c (length p.vars)) h (word_again words l.tokens) (ap (λ k. take k (names_of c)) (sym few) ∙ all_names (names_of c)) refl
  where
    n : Naming
    n = record { words = words; vars = p.vars }

    read : Texts
    read = words_after words l.tokens

    c : Setting
    c = record { n = n; read = read; used = names_in (tokens_in l); distinct = h.distinct; again = word_again words l.tokens; state = h.state }

    s : (j : ℕ) × (met_after 0 (variables_of_conditions p.conditions) ≡ Some j) × (met_after j (flat_map variables_of_action p.actions) ≡ Some (length p.vars))
    s = met_split 0 (length p.vars) (variables_of_conditions p.conditions) (flat_map variables_of_action p.actions) h.numbered

    few : length (names_of c) ≡ length p.vars
    few = count_kept words p.vars

    grown : s.0 ≤ length p.vars
    grown = met_grows s.0 (length p.vars) (flat_map variables_of_action p.actions) s.2

    start : record { used = names_in (tokens_in l); names = []; fresh = []; next = 1 } ≡ with_met c 0
    start = ap (λ names. let f : Fresh = record { used = names_in (tokens_in l); names = names; fresh = []; next = 1 } in f) (sym (no_names (names_of c)))

    after : Expanded (List Condition) → ProductionRead
    after x = let y = actions_of read (map (action_back n) p.actions) x.names in read_as read (tree_back words p) x.value y.value y.names

pub printed_is_read : PrintedIsRead
printed_is_read words p h within =
    let c = cut_production words p h in
    record {
      cut = c.whole;
      read = ap tree_of c.says ∙ spelled_is_read (tree_back words p) (tree_is words p h) within;
      same = both_again words p (lexed (printed words p)) h;
    }
