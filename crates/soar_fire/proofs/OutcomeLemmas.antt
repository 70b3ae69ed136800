-- Steps one after the other.
use Rattle.std.proofs.Common.{◌≡◌, List, [], ◌∷◌, ◌++◌, Result, Ok, Err, OnOk, refl, sym, ap, append_assoc}
use Rattle.soar_sym.specs.declared.symbol.Sym.{Sym}
use Rattle.defs_soar.specs.declared.firing.Made.{Made}
use Rattle.soar_fire.specs.declared.fault.FireFault.{FireFault}
use Rattle.soar_fire.specs.declared.fault.FireFault.TheVariants as fault
use Rattle.soar_fire.specs.Outcomes.{Outcome, reached, stopped, then_on, found, Standing, Answers, Leaves}

pub on_ok : {A E : Type 0} (r : Result A E) (P : Type 0) → P → OnOk r P
on_ok (Ok a) P h = h
on_ok (Err e) P h = tt

pub then_none : (o : Outcome (List Sym)) → then_on o (λ more s. found ([] ++ more) s) ≡ o
then_none (stopped limit) = refl
then_none (reached (Ok more) s) = refl
then_none (reached (Err why) s) = refl

pub then_more : (o : Outcome (List Sym)) (xs : List Sym) (x : Sym) → then_on (then_on o (λ more s. found (x ∷ more) s)) (λ more s. found (xs ++ more) s) ≡ then_on o (λ more s. found ((xs ++ x ∷ []) ++ more) s)
then_more (stopped limit) xs x = refl
then_more (reached (Ok more) s) xs x = ap (λ ys. found ys s) (sym (append_assoc xs (x ∷ []) more))
then_more (reached (Err why) s) xs x = refl

-- ---- a limit that a step passed

pub leaves_stopped : (o : Outcome Made) (f : Made → Standing → Outcome Made) (made later : Made) (s after : Standing) (e : FireFault) → Leaves o made s (Err e) → Leaves (then_on o f) later after (Err e)
leaves_stopped o f made later s after fault.IdsSpent h = ap (λ x. then_on x f) h
leaves_stopped o f made later s after fault.WordsSpent h = ap (λ x. then_on x f) h
leaves_stopped o f made later s after fault.NoMemory h = tt

pub answers_stopped : {A B : Type 0} (o : Outcome A) (f : A → Standing → Outcome B) (s after : Standing) (e : FireFault) → Answers o s (Err e) → Answers (then_on o f) after (Err e)
answers_stopped o f s after fault.IdsSpent h = ap (λ x. then_on x f) h
answers_stopped o f s after fault.WordsSpent h = ap (λ x. then_on x f) h
answers_stopped o f s after fault.NoMemory h = tt
