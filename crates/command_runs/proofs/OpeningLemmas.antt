-- A file that is asked for.
use Rattle.std.proofs.Common.{◌≡◌, ℕ, zero, suc, ◌+◌, ◌<◌, ◌≤◌, ◌^◌, ◌==◌, true, false, nat_lt, nat_le, List, [], ◌∷◌, length, Option, Some, None, Result, Ok, Err, refl, sym, ap, subst, ◌∙◌, arith}
use Rattle.std.proofs.lemmas.Grind.{common_steps}
use Rattle.std.specs.Prelude.{◌-◌, Bool, IfSome, if◌then◌else◌}
use Rattle.std.specs.Str.{bytes_eq}
use Rattle.soar_edge.specs.Files.{FetchCause, Fetches, file_of, told}
use Rattle.soar_edge.specs.declared.fault.Fetch.{Fetch}
use Rattle.soar_edge.specs.declared.fault.Fetch.TheVariants as fetch
use Rattle.soar_edge.specs.declared.filed.Filed.{Filed}
use Rattle.soar_edge.specs.declared.status.Status.TheVariants as status
use Rattle.defs_run.specs.Orders.{no_file, sources_too_deep, too_many_files}
use Rattle.defs_run.specs.Whole.{whole_stage}
use Rattle.defs_run.specs.Runs.{Run, Ran, ran, ended_as}
use Rattle.defs_run.specs.Sessions.{Session}
use Rattle.defs_run.specs.Sources.{Obeying, fetched, file_named, file_run, is_failing, obeying, refused_run, sourced}
use Rattle.command_runs.specs.Causes.{Fetched, ShelfCause, counted_on}
use Rattle.command_runs.specs.Following.{Comes, IsAt, IsCut, IsOver, OpensFile, OpensWithin, Steps, inner_of}
use Rattle.command_runs.specs.declared.ends.Opened.{Opened}
use Rattle.command_runs.specs.declared.ends.Step.{Step}
use Rattle.command_runs.specs.declared.ends.Step.TheVariants as step
use Rattle.command_runs.specs.declared.fault.Fault.{Fault}
use Rattle.command_runs.specs.declared.progress.Progress.{Progress}
use Rattle.command_runs.proofs.FlowLemmas.{none_of, nothing_written, of_some}

-- ---- what a fetch gives

not_many : (n : ℕ) → n < 1000 → nat_le 1000 n ≡ false
not_many n h = grind (arith, common_steps)

test_false : (n m : ℕ) → m ≤ n → nat_lt n m ≡ false
test_false n m h = grind (arith, common_steps)

test_true : (n m : ℕ) → n < m → nat_lt n m ≡ true
test_true n m h = grind (arith, common_steps)

same_number : (n m : ℕ) → n ≡ m → (n == m) ≡ true
same_number n m h = grind (arith, common_steps)

not_same : (n m : ℕ) → m < n → (n == m) ≡ false
not_same n m h = grind (arith, common_steps)

-- the fetch that fails is behind this one
misses : (fails : Option ℕ) (n : ℕ) → Comes fails n → is_failing fails n ≡ false
misses None n comes = refl
misses (Some k) n comes = not_same k n comes

-- both find the same file
same_file : (stock : List Filed) (name : List ℕ) → file_named stock name ≡ file_of stock name
same_file [] name = refl
same_file (f ∷ stock) name = ap (λ rest. if bytes_eq f.name name then Some f.bytes else rest) (same_file stock name)

-- a run that asked for one file more
abbrev pub one_more : Run → Run
one_more r = record r { fetched = suc r.fetched }

-- what a fetch that does not fail leads to
gives : (inside : Obeying) (fails : Option ℕ) (stock : List Filed) (from : List ℕ) (number : ℕ) (name : List ℕ) (r : Run) → r.fetched < 1000 → Comes fails (suc r.fetched)
    → fetched inside fails stock from number name r ≡ file_run inside from number name (one_more r) (file_of stock name)
gives inside fails stock from number name r few comes =
    let many : Ran = refused_run too_many_files from number r in
    let failed : Ran = ran (ended_as status.FileFault r) in
    let found : Ran = file_run inside from number name (one_more r) (file_named stock name) in
    ap (λ b. if b then many else if is_failing fails (suc r.fetched) then failed else found) (not_many r.fetched few)
    ∙ ap (λ b. if b then failed else found) (misses fails (suc r.fetched) comes)
    ∙ ap (file_run inside from number name (one_more r)) (same_file stock name)

-- ---- as the code counts

few_of : {C : Type 0} (stands : Session → Type 0) (p : Progress C) (r : Run) → IsAt stands p r → p.fetched < 1000 → r.fetched < 1000
few_of stands p r at few = subst (λ n. n < 1000) at.fetched few

comes_of : {C : Type 0} (stands : Session → Type 0) (p : Progress C) (fails : Option ℕ) (r : Run) → IsAt stands p r → Comes fails (p.fetched + 1) → Comes fails (suc r.fetched)
comes_of stands p fails r at comes =
    let more : p.fetched + 1 ≡ suc r.fetched = omega (arith, at.fetched) in
    subst (Comes fails) more comes

-- it stands for the run that asked for one more
pub at_more : {C : Type 0} (stands : Session → Type 0) (p : Progress C) (r : Run) → IsAt stands p r → IsAt stands (record p { fetched = p.fetched + 1 }) (one_more r)
at_more stands p r at = record { session = at.session; refused = at.refused; fetched = (let more : p.fetched + 1 ≡ suc r.fetched = omega (arith, at.fetched) in more); goes = at.goes }

-- ---- answers

pub opens : {C : Type 0} (stands : Session → Type 0) (p : Progress C) (written : Option (List ℕ)) (inside : Obeying) (fails : Option ℕ) (stock : List Filed) (from : List ℕ) (number : ℕ) (r : Run) (file : Opened)
    → p.fetched < 1000 → Comes fails (p.fetched + 1) → IsAt stands p r → file_of stock file.name ≡ Some file.bytes → length file.bytes ≤ 2 ^ 26
    → OpensFile stands (record p { fetched = p.fetched + 1 }) written written (Some inside) (fetched inside fails stock from number file.name r) file
opens stands p written inside fails stock from number r file few comes at found short = record {
  run = one_more r;
  text = [];
  obeying = inside;
  inside = refl;
  appended = nothing_written written;
  at_run = at_more stands p r at;
  comes = gives inside fails stock from number file.name r (few_of stands p r at few) (comes_of stands p fails r at comes)
      ∙ ap (file_run inside from number file.name (one_more r)) found
      ∙ ap (λ b. if b then ran (ended_as status.TooLong (one_more r)) else inside file.name true file.bytes (one_more r)) (test_false (2 ^ 26) (length file.bytes) short);
}

-- where there is no file
pub misses_file : {C : Type 0} (stands held : Session → Type 0) (p q : Progress C) (old now : Option (List ℕ)) (inside : Obeying) (fails : Option ℕ) (stock : List Filed) (from : List ℕ) (number : ℕ) (name : List ℕ) (r : Run) (result : Result Step Fault)
    → p.fetched < 1000 → Comes fails (p.fetched + 1) → IsAt stands p r → file_of stock name ≡ None
    → Steps held q old now fails (Some inside) (refused_run (no_file name) from number (one_more r)) result
    → Steps held q old now fails (Some inside) (fetched inside fails stock from number name r) result
misses_file stands held p q old now inside fails stock from number name r result few comes at none steps =
    subst (λ x. Steps held q old now fails (Some inside) x result)
    (sym (gives inside fails stock from number name r (few_of stands p r at few) (comes_of stands p fails r at comes) ∙ ap (file_run inside from number name (one_more r)) none))
    steps

-- one that is too long
pub too_long_file : {C : Type 0} (stands : Session → Type 0) (p : Progress C) (written : Option (List ℕ)) (inside : Obeying) (fails : Option ℕ) (stock : List Filed) (from : List ℕ) (number : ℕ) (name bytes : List ℕ) (r : Run)
    → p.fetched < 1000 → Comes fails (p.fetched + 1) → IsAt stands p r → file_of stock name ≡ Some bytes → 2 ^ 26 < length bytes
    → IsOver written written status.TooLong (fetched inside fails stock from number name r)
too_long_file stands p written inside fails stock from number name bytes r few comes at found long =
    subst (IsOver written written status.TooLong)
    (sym (gives inside fails stock from number name r (few_of stands p r at few) (comes_of stands p fails r at comes)
    ∙ ap (file_run inside from number name (one_more r)) found
    ∙ ap (λ b. if b then ran (ended_as status.TooLong (one_more r)) else inside name true bytes (one_more r)) (test_true (2 ^ 26) (length bytes) long)))
    (record { text = nothing_written written; ended = refl })

-- the fetch that fails
pub failed_fetch : {C : Type 0} (stands : Session → Type 0) (p : Progress C) (written : Option (List ℕ)) (inside : Obeying) (fails : Option ℕ) (stock : List Filed) (from : List ℕ) (number : ℕ) (name : List ℕ) (r : Run)
    → p.fetched < 1000 → IsAt stands p r → IsCut p.fetched written written fails (fetched inside fails stock from number name r)
failed_fetch stands p written inside fails stock from number name r few at = record { front = none_of written _; whole = λ is. ends fails is }
  where
    few_runs : r.fetched < 1000
    few_runs = few_of stands p r at few

    ends : (f : Option ℕ) → f ≡ Some (suc p.fetched) → IsOver written written status.FileFault (fetched inside f stock from number name r)
    ends f is =
        let here : is_failing f (suc r.fetched) ≡ true = ap (λ o. is_failing o (suc r.fetched)) is ∙ same_number (suc p.fetched) (suc r.fetched) (ap suc at.fetched) in
        let found : Ran = file_run inside from number name (one_more r) (file_named stock name) in
        subst (IsOver written written status.FileFault)
        (sym (ap (λ b. if b then refused_run too_many_files from number r else if is_failing f (suc r.fetched) then ran (ended_as status.FileFault r) else found) (not_many r.fetched few_runs)
        ∙ ap (λ b. if b then ran (ended_as status.FileFault r) else found) here))
        (record { text = nothing_written written; ended = refl })

pub missing_told : (stock : List Filed) (name : List ℕ) (e : Fetch) → e ≡ fetch.Missing → Fetches stock name (Err e) → file_of stock name ≡ None
missing_told stock name e is fetches = subst (λ f. Fetches stock name (Err f)) is fetches

pub missing_calm : (T : Type 0) (before now : ℕ) (e : Fetch) → e ≡ fetch.Missing → FetchCause {T = T} before now (Err e) → now ≡ before
missing_calm T before now e is cause = subst (λ f. FetchCause {T = T} before now (Err f)) is cause

pub same_shelf : {T : Type 0} (before now : ℕ) (result : Result T Fault) → now ≡ before → ((count : ℕ) → ShelfCause count count result) → ShelfCause before now result
same_shelf before now result same none = subst (λ n. ShelfCause before n result) (sym same) (none before)

-- ---- as the shelf counts

-- a number that is not below another is not below it after one more
still_not : (n m : ℕ) → nat_lt n m ≡ false → nat_lt (suc n) m ≡ false
still_not n m h = grind (arith, common_steps)

-- the shelf tells one more, as long as it tells
tells_more : (n : ℕ) (last : Option ℕ) → (b : Bool) → nat_lt n (2 ^ 64 - 1) ≡ b → IfSome (if b then Some n else None) (λ k. last ≡ told (k + 1)) → ((if b then Some n else None) ≡ None → last ≡ None) → last ≡ told (suc n)
tells_more n last true below counts silent = counts ∙ ap told (plus_one n)
  where
    plus_one : (m : ℕ) → m + 1 ≡ suc m
    plus_one m = omega arith
tells_more n last false above counts silent = silent refl ∙ sym (ap (λ b. if b then Some (suc n) else None) (still_not n (2 ^ 64 - 1) above))

counts_more : (n a : ℕ) (first last : Option ℕ) → IfSome first (λ k. last ≡ told (k + 1)) → (first ≡ None → last ≡ None) → first ≡ counted_on n a → last ≡ counted_on n (suc a)
counts_more n zero first last counts silent is = of_some (λ k. last ≡ told (k + 1)) first n is counts
counts_more n (suc a) first last counts silent is =
    let more : n + suc (suc a) ≡ suc (n + suc a) = omega arith in
    tells_more (n + suc a) last (nat_lt (n + suc a) (2 ^ 64 - 1)) refl (subst (λ o. IfSome o (λ k. last ≡ told (k + 1))) is counts) (subst (λ o. o ≡ None → last ≡ None) is silent)
    ∙ ap told (sym more)

pub one_fetched : (a : ℕ) (first last : Option ℕ) → a < 1000 → IfSome first (λ k. last ≡ told (k + 1)) → (first ≡ None → last ≡ None) → Fetched a (a + 1) first last
one_fetched a first last few counts silent =
    let more : suc a ≡ a + 1 = omega arith in
    subst (λ b. Fetched a b first last) more
    (record { later = omega arith; most = λ most. omega (arith, few); counted = λ n is. counts_more n a first last counts silent is })

pub same_fetched : (a : ℕ) (first last : Option ℕ) → IfSome first (λ k. last ≡ Some k) → (first ≡ None → last ≡ None) → Fetched a a first last
same_fetched a first last same silent = record { later = omega arith; most = λ few. few; counted = λ n is. stays first same silent ∙ is }
  where
    stays : (o : Option ℕ) → IfSome o (λ k. last ≡ Some k) → (o ≡ None → last ≡ None) → last ≡ o
    stays None same silent = silent refl
    stays (Some k) same silent = same

-- ---- where a file may not be read

many : (n : ℕ) → 1000 ≤ n → nat_le 1000 n ≡ true
many n h = grind (arith, common_steps)

pub too_many : {C : Type 0} (stands held : Session → Type 0) (p q : Progress C) (old now : Option (List ℕ)) (fails : Option ℕ) (inner : Option Obeying) (stock : List Filed) (from : List ℕ) (number : ℕ) (name : List ℕ) (r : Run) (result : Result Step Fault)
    → 1000 ≤ p.fetched → IsAt stands p r
    → Steps held q old now fails inner (refused_run too_many_files from number r) result → Steps held q old now fails inner (sourced inner fails stock from number name r) result
too_many stands held p q old now fails inner stock from number name r result full at steps =
    subst (λ x. Steps held q old now fails inner x result) (sym (by inner)) steps
  where
    test : nat_le 1000 r.fetched ≡ true
    test = many r.fetched (subst (λ n. 1000 ≤ n) at.fetched full)

    by : (o : Option Obeying) → sourced o fails stock from number name r ≡ refused_run too_many_files from number r
    by None = ap (λ b. if b then refused_run too_many_files from number r else refused_run sources_too_deep from number r) test
    by (Some inside) =
        ap (λ b. if b then refused_run too_many_files from number r else if is_failing fails (suc r.fetched) then ran (ended_as status.FileFault r)
        else file_run inside from number name (one_more r) (file_named stock name)) test

pub too_deep : {C : Type 0} (stands held : Session → Type 0) (p q : Progress C) (old now : Option (List ℕ)) (fails : Option ℕ) (depth : ℕ) (stock : List Filed) (from : List ℕ) (number : ℕ) (name : List ℕ) (r : Run) (result : Result Step Fault)
    → depth ≡ 0 → p.fetched < 1000 → IsAt stands p r
    → Steps held q old now fails (inner_of fails stock depth) (refused_run sources_too_deep from number r) result
    → Steps held q old now fails (inner_of fails stock depth) (sourced (inner_of fails stock depth) fails stock from number name r) result
too_deep stands held p q old now fails zero stock from number name r result none few at steps =
    subst (λ x. Steps held q old now fails None x result)
    (sym (ap (λ b. if b then refused_run too_many_files from number r else refused_run sources_too_deep from number r) (not_many r.fetched (few_of stands p r at few)))) steps
too_deep stands held p q old now fails (suc depth) stock from number name r result none few at steps = absurd (cc)

pub within : {C : Type 0} (held : Session → Type 0) (q : Progress C) (old now : Option (List ℕ)) (fails : Option ℕ) (depth : ℕ) (stock : List Filed) (from : List ℕ) (number : ℕ) (name : List ℕ) (r : Run) (result : Result Step Fault)
    → 0 < depth → ((inside : Obeying) → Steps held q old now fails (Some inside) (fetched inside fails stock from number name r) result)
    → Steps held q old now fails (inner_of fails stock depth) (sourced (inner_of fails stock depth) fails stock from number name r) result
within held q old now fails zero stock from number name r result some steps = absurd (omega (arith, some))
within held q old now fails (suc depth) stock from number name r result some steps = steps (obeying whole_stage fails stock depth)

pub opens_within : (depth : ℕ) (result : Result Step Fault) → 0 < depth → OpensWithin depth result
opens_within depth (Ok step.Goes) some = tt
opens_within depth (Ok (step.Ends e)) some = tt
opens_within depth (Ok (step.Opens file)) some = some
opens_within depth (Err e) some = tt
