-- The script item by item.
use Rattle.std.proofs.Common.{◌≡◌, ◌∙◌, ℕ, suc, ◌+◌, ◌-◌, ◌<◌, ◌%◌, Bool, true, nat_lt, List, [], ◌∷◌, ◌++◌, append_assoc, add-one, ap, sym, arith}
use Rattle.std.specs.Prelude.{codes, if◌then◌else◌}
use Rattle.std.specs.Fmt.{decimal}
use Rattle.defs_run.specs.CommandLine.{item_label, item_text, items_text, next_line, removals_text, rules_text, script_of}
use Rattle.generator.specs.Items.{kind_text}

-- ---- an item

behind_six : (a l b m c d e r : List ℕ) → (a ++ (l ++ (b ++ (m ++ (c ++ (d ++ e)))))) ++ r ≡ a ++ (l ++ (b ++ (m ++ (c ++ (d ++ (e ++ r))))))
behind_six a l b m c d e r =
    append_assoc a (l ++ (b ++ (m ++ (c ++ (d ++ e))))) r ∙ ap (λ x. a ++ x)
    (append_assoc l (b ++ (m ++ (c ++ (d ++ e)))) r ∙ ap (λ x. l ++ x)
    (append_assoc b (m ++ (c ++ (d ++ e))) r ∙ ap (λ x. b ++ x)
    (append_assoc m (c ++ (d ++ e)) r ∙ ap (λ x. m ++ x)
    (append_assoc c (d ++ e) r ∙ ap (λ x. c ++ x) (append_assoc d e r)))))

abbrev link_if : Bool → ℕ → List ℕ
link_if b k = if b then next_line (codes "input add ") k else []

item_is : (n k : ℕ) → kind_text k ++ link_if (nat_lt k (n - 1)) k ≡ item_text n k
item_is n k =
    behind_six (codes "input add S1 ^item ") (item_label k) (codes "\ninput add ") (item_label k) (codes " ^kind ") (decimal (k % 3)) (codes "\n") (link_if (nat_lt k (n - 1)) k)

-- with the link to the next item
pub item_linked : (n k : ℕ) (before between after : List ℕ) → nat_lt k (n - 1) ≡ true → between ≡ before ++ kind_text k → after ≡ between ++ next_line (codes "input add ") k → after ≡ before ++ item_text n k
item_linked n k before between after more kind link =
    link ∙ ap (λ x. x ++ next_line (codes "input add ") k) kind ∙ append_assoc before (kind_text k) (next_line (codes "input add ") k)
    ∙ ap (λ x. before ++ x) (ap (λ b. kind_text k ++ link_if b k) (sym more) ∙ item_is n k)

-- ---- all items

one_less : (n k : ℕ) → k < n → n - k ≡ suc (n - (k + 1))
one_less n k less = omega (arith, less)

pub items_step : (n k : ℕ) → k < n → items_text n k (n - k) ≡ item_text n k ++ items_text n (k + 1) (n - (k + 1))
items_step n k less = ap (items_text n k) (one_less n k less) ∙ ap (λ m. item_text n k ++ items_text n m (n - (k + 1))) (sym (add-one k))

-- ---- the script

pub script_is : (n : ℕ) (rules items first removals whole : List ℕ) → rules ≡ rules_text → items ≡ rules ++ items_text n 0 n → first ≡ items ++ codes "run 1\n" → removals ≡ first ++ removals_text n 0 n
    → whole ≡ removals ++ codes "run 1\nstats\n" → whole ≡ script_of n
unfolding script_of
script_is n rules items first removals whole rules_are items_are first_is removals_are whole_is =
    let last = codes "run 1\nstats\n" in
    let runs = codes "run 1\n" in
    let added = items_text n 0 n in
    let removed = removals_text n 0 n in
    whole_is ∙ ap (λ x. x ++ last) (removals_are ∙ ap (λ x. x ++ removed) (first_is ∙ ap (λ x. x ++ runs) (items_are ∙ ap (λ x. x ++ added) rules_are)))
    ∙ append_assoc ((rules_text ++ added) ++ runs) removed last ∙ append_assoc (rules_text ++ added) runs (removed ++ last) ∙ append_assoc rules_text added (runs ++ (removed ++ last))
