-- Programs from which rules go, and which rules join, keep the explanations of the rules that stay.
use Rattle.std.proofs.Common.{◌≡◌, refl, sym, ◌∙◌, ap, subst, ℕ, suc, ◌≤◌, ◌<◌, ◌==◌, Bool, true, false, ◌&&◌, cond, ◌⊎◌, inl, inr, arith, List, [], ◌∷◌, ◌++◌, map, filter, Some, None}
use Rattle.std.proofs.lemmas.List.{append-nil}
use Rattle.std.specs.List.{list_any}
use Rattle.std.specs.Prelude.{not}
use Rattle.soar_sym.specs.declared.symbol.Sym.{Sym}
use Rattle.soar_rule.specs.Productions.{ProductionOf}
use Rattle.defs_match.specs.Rules.{RuleOf}
use Rattle.defs_soar.specs.Agents.{Learnt, LiveFiring, Program}
use Rattle.defs_soar.specs.Laws.{IsIn}
use Rattle.defs_soar.specs.Pending.{is_justification}
use Rattle.defs_soar.specs.Start.{without_justifications}
use Rattle.defs_soar.specs.Waves.{is_spent, without_spent}
use Rattle.defs_run.specs.Carrying.{chain_of_rule, is_named, with_production, without_name}
use Rattle.learning_laws.proofs.Lists.{and_true, any_in, any_some, both_true, filter_keeps, filter_within, in_append, in_map, in_mapped, same_number}
use Rattle.program_laws.specs.Taught.{AreNext}
use Rattle.explanation_laws.specs.Staying.{DoRise, IsNumberedProgram, Later, LaterItself, LaterTwice}

not_less : (n : ℕ) → n ≤ n
not_less n = omega arith

pub later_itself : LaterItself
later_itself p h = record { numbered = h; last = not_less p.last_rule; rules = λ r i. inl (record { there = i; same = refl }) }

pub later_twice : LaterTwice
later_twice p q s h k = record {
  numbered = k.numbered;
  last = let low : p.last_rule ≤ q.last_rule = h.last in let high : q.last_rule ≤ s.last_rule = k.last in omega arith;
  rules = λ r i. elim (k.rules r i) [
    | inl stayed ↦ elim (h.rules r stayed.there) [ inl before ↦ inl (record { there = before.there; same = stayed.same ∙ before.same }) | inr new ↦ inr new ]
    | inr new ↦ inr (let low : p.last_rule ≤ q.last_rule = h.last in let high : q.last_rule < r.number = new in omega arith)
  ];
}

-- ---- numbers that rise

filter_rises : (keep : RuleOf → Bool) (rules : List RuleOf) → DoRise rules → DoRise (filter keep rules)
filter_rises keep [] h = tt
filter_rises keep (rule ∷ rules) h = go (keep rule) (filter_rises keep rules h.1)
  where
    go : (b : Bool) → DoRise (filter keep rules) → DoRise (cond b (rule ∷ filter keep rules) (filter keep rules))
    go true later = (λ r i. h.0 r (filter_within keep rules r i).0, later)
    go false later = later

append_rises : (rules more : List RuleOf) → DoRise rules → DoRise more → ((r s : RuleOf) → IsIn r rules → IsIn s more → r.number < s.number) → DoRise (rules ++ more)
append_rises [] more h k apart = k
append_rises (rule ∷ rules) more h k apart =
    (λ r i. elim (in_append r rules more i) [ inl j ↦ h.0 r j | inr j ↦ apart rule r (inl refl) j ], append_rises rules more h.1 k (λ r s i j. apart r s (inr i) j))

-- a number is of one rule
once : (rules : List RuleOf) → DoRise rules → (r s : RuleOf) → IsIn r rules → IsIn s rules → r.number ≡ s.number → r ≡ s
once [] h r s i j q = absurd i
once (x ∷ rules) h r s (inl a) (inl b) q = sym a ∙ b
once (x ∷ rules) h r s (inl a) (inr j) q =
    let low : x.number < s.number = h.0 s j in let is : x.number ≡ r.number = ap (λ (y : RuleOf). y.number) a in absurd (omega arith)
once (x ∷ rules) h r s (inr i) (inl b) q =
    let low : x.number < r.number = h.0 r i in let is : x.number ≡ s.number = ap (λ (y : RuleOf). y.number) b in absurd (omega arith)
once (x ∷ rules) h r s (inr i) (inr j) q = once rules h.1 r s i j q

next_low : (number : ℕ) (rules : List RuleOf) (last : ℕ) → AreNext number rules last → number ≤ last
next_low number [] last h = let is : number ≡ last = h in omega arith
next_low number (rule ∷ rules) last h = let low : suc number ≤ last = next_low (suc number) rules last h.1 in omega arith

next_above : (number : ℕ) (rules : List RuleOf) (last : ℕ) → AreNext number rules last → (r : RuleOf) → IsIn r rules → number < r.number
next_above number [] last h r i = absurd i
next_above number (rule ∷ rules) last h r (inl q) = let is : rule.number ≡ suc number = h.0 in let e : rule.number ≡ r.number = ap (λ (x : RuleOf). x.number) q in omega arith
next_above number (rule ∷ rules) last h r (inr i) = let low : suc number < r.number = next_above (suc number) rules last h.1 r i in omega arith

next_given : (number : ℕ) (rules : List RuleOf) (last : ℕ) → AreNext number rules last → (r : RuleOf) → IsIn r rules → r.number ≤ last
next_given number [] last h r i = absurd i
next_given number (rule ∷ rules) last h r (inl q) =
    let is : rule.number ≡ suc number = h.0 in let e : rule.number ≡ r.number = ap (λ (x : RuleOf). x.number) q in
    let low : suc number ≤ last = next_low (suc number) rules last h.1 in omega arith
next_given number (rule ∷ rules) last h r (inr i) = next_given (suc number) rules last h.1 r i

next_rises : (number : ℕ) (rules : List RuleOf) (last : ℕ) → AreNext number rules last → DoRise rules
next_rises number [] last h = tt
next_rises number (rule ∷ rules) last h =
    (λ r i. let low : suc number < r.number = next_above (suc number) rules last h.1 r i in let is : rule.number ≡ suc number = h.0 in omega arith, next_rises (suc number) rules last h.1)

-- ---- the explanation of a rule among others

number_above : (a b : ℕ) → b < a → (a == b) ≡ false
number_above a b h = grind arith

number_below : (a b : ℕ) → a < b → (a == b) ≡ false
number_below a b h = grind arith

number_same : (a b : ℕ) → a ≡ b → (a == b) ≡ true
number_same a b h = grind arith

same_turned : (a b : ℕ) → (a == b) ≡ true → (b == a) ≡ true
same_turned a b h = grind arith

-- where none goes that is of the number
chain_kept : (shows : Learnt → Bool) (number : ℕ) (chains : List Learnt) → ((l : Learnt) → (l.rule == number) ≡ true → shows l ≡ true)
    → chain_of_rule (filter shows chains) number ≡ chain_of_rule chains number
chain_kept shows number [] h = refl
chain_kept shows number (l ∷ chains) h = go (chain_kept shows number chains h) (shows l) refl
  where
    miss : chain_of_rule (filter shows chains) number ≡ chain_of_rule chains number → shows l ≡ false → (b : Bool) → (l.rule == number) ≡ b
        → chain_of_rule (filter shows chains) number ≡ cond b (Some l.chain) (chain_of_rule chains number)
    miss later q true e = let z = h l e in absurd (cc)
    miss later q false e = later

    go : chain_of_rule (filter shows chains) number ≡ chain_of_rule chains number → (b : Bool) → shows l ≡ b
        → chain_of_rule (cond b (l ∷ filter shows chains) (filter shows chains)) number ≡ cond (l.rule == number) (Some l.chain) (chain_of_rule chains number)
    go later true q = ap (λ o. cond (l.rule == number) (Some l.chain) o) later
    go later false q = miss later q (l.rule == number) refl

chain_none : (number : ℕ) (chains : List Learnt) → ((l : Learnt) → IsIn l chains → number < l.rule) → chain_of_rule chains number ≡ None
chain_none number [] h = refl
chain_none number (l ∷ chains) h =
    ap (λ b. cond b (Some l.chain) (chain_of_rule chains number)) (number_above l.rule number (h l (inl refl))) ∙ chain_none number chains (λ m i. h m (inr i))

-- where those that join are of higher numbers
chain_before : (number : ℕ) (chains more : List Learnt) → ((l : Learnt) → IsIn l more → number < l.rule) → chain_of_rule (chains ++ more) number ≡ chain_of_rule chains number
chain_before number [] more h = chain_none number more h
chain_before number (l ∷ chains) more h = ap (λ o. cond (l.rule == number) (Some l.chain) o) (chain_before number chains more h)

-- ---- rules that go

kept_later : (p : Program) (keep : RuleOf → Bool) (shows : Learnt → Bool) → IsNumberedProgram p
    → ((r : RuleOf) → IsIn r p.rules → keep r ≡ true → (l : Learnt) → (l.rule == r.number) ≡ true → shows l ≡ true)
    → Later p (record p { rules = filter keep p.rules; chains = filter shows p.chains })
kept_later p keep shows h shown = record {
  numbered = record {
    rise = filter_rises keep p.rules h.rise;
    given = λ r i. h.given r (filter_within keep p.rules r i).0;
    explained = λ l i. h.explained l (filter_within shows p.chains l i).0;
  };
  last = not_less p.last_rule;
  rules = λ r i. let k = filter_within keep p.rules r i in inl (record { there = k.0; same = chain_kept shows r.number p.chains (λ l e. shown r k.0 k.1 l e) });
}

pub spent_later : (gone : List LiveFiring) (p : Program) → IsNumberedProgram p → Later p (without_spent gone p)
spent_later gone p h =
    kept_later p (λ rule. not (is_spent gone rule)) (λ learnt. list_any (λ rule. (rule.number == learnt.rule) && not (is_spent gone rule)) p.rules) h
    (λ r i k l e. any_in (λ rule. (rule.number == l.rule) && not (is_spent gone rule)) r p.rules i (and_true (r.number == l.rule) (not (is_spent gone r)) (same_turned l.rule r.number e) k))

pub anew_later : (p : Program) → IsNumberedProgram p → Later p (without_justifications p)
anew_later p h =
    let keep : RuleOf → Bool = λ rule. not (is_justification rule.production.kind) in
    kept_later p keep (λ learnt. list_any (λ rule. rule.number == learnt.rule) (filter keep p.rules)) h
    (λ r i k l e. any_in (λ rule. rule.number == l.rule) r (filter keep p.rules) (filter_keeps keep p.rules r i k) (same_turned l.rule r.number e))

pub named_later : (name : Sym) (p : Program) → IsNumberedProgram p → Later p (without_name name p)
named_later name p h =
    kept_later p (λ rule. not (is_named name rule)) (λ learnt. not (list_any (λ rule. (rule.number == learnt.rule) && is_named name rule) p.rules)) h
    (λ r i k l e. go r i k l e (list_any (λ rule. (rule.number == l.rule) && is_named name rule) p.rules) refl)
  where
    go : (r : RuleOf) → IsIn r p.rules → not (is_named name r) ≡ true → (l : Learnt) → (l.rule == r.number) ≡ true → (b : Bool)
        → list_any (λ rule. (rule.number == l.rule) && is_named name rule) p.rules ≡ b → not b ≡ true
    go r i k l e false q = refl
    go r i k l e true q =
        let found = any_some (λ rule. (rule.number == l.rule) && is_named name rule) p.rules q in
        let both = both_true (found.0.number == l.rule) (is_named name found.0) found.2 in
        let is : found.0 ≡ r = once p.rules h.rise found.0 r found.1 i (same_number found.0.number l.rule both.0 ∙ same_number l.rule r.number e) in
        let named : is_named name r ≡ true = subst (λ x. is_named name x ≡ true) is both.1 in
        absurd (cc)

-- ---- rules that join

-- explanations of rules that have the next numbers
pub joined_above : (number : ℕ) (rules : List RuleOf) (last : ℕ) (chains : List Learnt) → AreNext number rules last → map (λ (l : Learnt). l.rule) chains ≡ map (λ (r : RuleOf). r.number) rules
    → (l : Learnt) → IsIn l chains → (number < l.rule) × (l.rule ≤ last)
joined_above number rules last chains next of_rules l i =
    let found = in_map (λ (r : RuleOf). r.number) l.rule rules (subst (λ ns. IsIn l.rule ns) of_rules (in_mapped (λ (m : Learnt). m.rule) l chains i)) in
    let is : found.0.number ≡ l.rule = found.2 in
    let low : number < found.0.number = next_above number rules last next found.0 found.1 in
    let high : found.0.number ≤ last = next_given number rules last next found.0 found.1 in
    (omega arith, omega arith)

pub joined_later : (p q : Program) (rules : List RuleOf) (chains : List Learnt) → IsNumberedProgram p → q.rules ≡ p.rules ++ rules → AreNext p.last_rule rules q.last_rule
    → q.chains ≡ p.chains ++ chains → ((l : Learnt) → IsIn l chains → (p.last_rule < l.rule) × (l.rule ≤ q.last_rule)) → Later p q
joined_later p q rules chains h rules_are next chains_are new = record {
  numbered = record {
    rise = subst DoRise (sym rules_are)
        (append_rises p.rules rules h.rise (next_rises p.last_rule rules q.last_rule next)
        (λ r s i j. let low : r.number ≤ p.last_rule = h.given r i in let high : p.last_rule < s.number = next_above p.last_rule rules q.last_rule next s j in omega arith));
    given = λ r i. elim (in_append r p.rules rules (subst (λ l. IsIn r l) rules_are i)) [
      | inl j ↦ (let low : r.number ≤ p.last_rule = h.given r j in let high : p.last_rule ≤ q.last_rule = next_low p.last_rule rules q.last_rule next in omega arith)
      | inr j ↦ next_given p.last_rule rules q.last_rule next r j
    ];
    explained = λ l i. elim (in_append l p.chains chains (subst (λ ls. IsIn l ls) chains_are i)) [
      | inl j ↦ (let low : l.rule ≤ p.last_rule = h.explained l j in let high : p.last_rule ≤ q.last_rule = next_low p.last_rule rules q.last_rule next in omega arith)
      | inr j ↦ (new l j).1
    ];
  };
  last = next_low p.last_rule rules q.last_rule next;
  rules = λ r i. elim (in_append r p.rules rules (subst (λ l. IsIn r l) rules_are i)) [
    | inl j ↦ inl (record { there = j; same = ap (λ ls. chain_of_rule ls r.number) chains_are ∙ chain_before r.number p.chains chains (above r j) })
    | inr j ↦ inr (next_above p.last_rule rules q.last_rule next r j)
  ];
}
  where
    above : (r : RuleOf) → IsIn r p.rules → (l : Learnt) → IsIn l chains → r.number < l.rule
    above r j l k = let low : r.number ≤ p.last_rule = h.given r j in let high : p.last_rule < l.rule = (new l k).0 in omega arith

-- a production is loaded without an explanation
pub production_later : (production : ProductionOf) (p : Program) → IsNumberedProgram p → Later p (with_production production p)
production_later production p h =
    let others = without_name production.name p in
    let gone = named_later production.name p h in
    later_twice p others (with_production production p) gone
    (joined_later others (with_production production p) (record { number = suc p.last_rule; production = production } ∷ []) [] gone.numbered refl (refl, refl) (sym (append-nil others.chains)) (λ l i. absurd i))

-- ---- what is found of those that join

found_next : (number : ℕ) (rules : List RuleOf) (last : ℕ) (chains : List Learnt) → AreNext number rules last → map (λ (l : Learnt). l.rule) chains ≡ map (λ (r : RuleOf). r.number) rules
    → (l : Learnt) → IsIn l chains → chain_of_rule chains l.rule ≡ Some l.chain
found_next number rules last [] next of_rules l i = absurd i
found_next number [] last (m ∷ chains) next of_rules l i = absurd (cc)
found_next number (rule ∷ rules) last (m ∷ chains) next of_rules l (inl q) =
    ap (λ b. cond b (Some m.chain) (chain_of_rule chains l.rule)) (number_same m.rule l.rule (ap (λ (x : Learnt). x.rule) q)) ∙ ap (λ (x : Learnt). Some x.chain) q
found_next number (rule ∷ rules) last (m ∷ chains) next of_rules l (inr i) =
    let first : m.rule ≡ rule.number = cc in
    let others : map (λ (x : Learnt). x.rule) chains ≡ map (λ (r : RuleOf). r.number) rules = cc in
    let is : rule.number ≡ suc number = next.0 in
    let above : suc number < l.rule = (joined_above (suc number) rules last chains next.1 others l i).0 in
    ap (λ b. cond b (Some m.chain) (chain_of_rule chains l.rule)) (number_below m.rule l.rule (omega arith)) ∙ found_next (suc number) rules last chains next.1 others l i

chain_behind : (number : ℕ) (chains more : List Learnt) → ((l : Learnt) → IsIn l chains → l.rule < number) → chain_of_rule (chains ++ more) number ≡ chain_of_rule more number
chain_behind number [] more h = refl
chain_behind number (l ∷ chains) more h =
    ap (λ b. cond b (Some l.chain) (chain_of_rule (chains ++ more) number)) (number_below l.rule number (h l (inl refl))) ∙ chain_behind number chains more (λ m i. h m (inr i))

pub joined_found : (p q : Program) (rules : List RuleOf) (chains : List Learnt) → IsNumberedProgram p → AreNext p.last_rule rules q.last_rule → q.chains ≡ p.chains ++ chains
    → map (λ (l : Learnt). l.rule) chains ≡ map (λ (r : RuleOf). r.number) rules → (l : Learnt) → IsIn l q.chains → p.last_rule < l.rule → chain_of_rule q.chains l.rule ≡ Some l.chain
joined_found p q rules chains h next chains_are of_rules l i high =
    ap (λ ls. chain_of_rule ls l.rule) chains_are
    ∙ chain_behind l.rule p.chains chains (λ m j. let low : m.rule ≤ p.last_rule = h.explained m j in omega arith)
    ∙ found_next p.last_rule rules q.last_rule chains next of_rules l (joins (in_append l p.chains chains (subst (λ ls. IsIn l ls) chains_are i)))
  where
    joins : IsIn l p.chains ⊎ IsIn l chains → IsIn l chains
    joins (inl j) = let low : l.rule ≤ p.last_rule = h.explained l j in absurd (omega arith)
    joins (inr j) = j
