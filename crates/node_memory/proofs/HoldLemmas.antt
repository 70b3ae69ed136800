-- A memory that takes a change holds the rows after it.
use Rattle.std.proofs.Common.{◌≡◌, refl, sym, ◌∙◌, ap, true, false, [], ◌∷◌, List, ℕ, Bool, ◌⊎◌, inl, inr, cond, Option, Some, None, unwrap_or, ◌+◌, ◌<◌, length, drop, get_or}
use Rattle.std.specs.Ordering.{is_eq}
use Rattle.std.proofs.lemmas.Option.{same_Some}
use Rattle.defs_match.specs.Laws.{IsIn}
use Rattle.defs_match.specs.Rows.{Row}
use Rattle.defs_match.specs.Testing.{Bindings}
use Rattle.node_memory.specs.Changes.{RowsChange, OneEach}
use Rattle.node_memory.specs.Memories.{Found, put_at, taken_at, puts, takens, same_tags}
use Rattle.node_memory.specs.Held.{Holds}
use Rattle.node_memory.proofs.MemoryLemmas.{told, from_here}
use Rattle.node_memory.proofs.EntryLemmas.{itself}

telling : (t q : List ℕ) → t ≡ q → same_tags t q ≡ true
telling t q e = ap (same_tags t) (sym e) ∙ ap is_eq (itself t)

taken_some : (s : Bool) (o : Option Bindings) (b : Bindings) → cond s None o ≡ Some b → (o ≡ Some b) × (s ≡ false)
taken_some true o b e = absurd (cc)
taken_some false o b e = (e, refl)

taken_back : (s : Bool) (o : Option Bindings) (b : Bindings) → o ≡ Some b → (s ≡ true → ⊥) → cond s None o ≡ Some b
taken_back true o b e n = absurd (n refl)
taken_back false o b e n = e

takens_some : (ts : List (List ℕ)) (f : Found) (q : List ℕ) (b : Bindings) → takens ts f q ≡ Some b → (f q ≡ Some b) × (IsIn q ts → ⊥)
takens_some [] f q b e = (e, λ h. h)
takens_some (t ∷ ts) f q b e =
    let deep = takens_some ts (taken_at t f) q b e in
    let here = taken_some (same_tags t q) (f q) b deep.0 in
    (here.0, λ h. elim h [ inl i ↦ (let k : true ≡ false = sym (telling t q i) ∙ here.1 in absurd (cc)) | inr i ↦ deep.1 i ])

takens_back : (ts : List (List ℕ)) (f : Found) (q : List ℕ) (b : Bindings) → f q ≡ Some b → (IsIn q ts → ⊥) → takens ts f q ≡ Some b
takens_back [] f q b e n = e
takens_back (t ∷ ts) f q b e n =
    takens_back ts (taken_at t f) q b (taken_back (same_tags t q) (f q) b e (λ h. n (inl (told t q h)))) (λ h. n (inr h))

put_some : (r : Row) (s : Bool) (o : Option Bindings) (b : Bindings) → cond s (Some (unwrap_or o r.bindings)) o ≡ Some b → ((s ≡ true) × (r.bindings ≡ b)) ⊎ (o ≡ Some b)
put_some r true None b e = let k : r.bindings ≡ b = same_Some r.bindings b e in inl (refl, k)
put_some r true (Some c) b e = inr e
put_some r false o b e = inr e

put_kept : (r : Row) (s : Bool) (o : Option Bindings) (b : Bindings) → o ≡ Some b → (c : Bindings) × (cond s (Some (unwrap_or o r.bindings)) o ≡ Some c)
put_kept r true o b e = (unwrap_or o r.bindings, refl)
put_kept r false o b e = (b, e)

puts_some : (rs : List Row) (f : Found) (x : Row) → puts rs f x.tags ≡ Some x.bindings → IsIn x rs ⊎ (f x.tags ≡ Some x.bindings)
puts_some [] f x e = inr e
puts_some (r ∷ rs) f x e =
    elim (puts_some rs (put_at r f) x e) [
      | inl i ↦ inl (inr i)
      | inr h ↦ elim (put_some r (same_tags r.tags x.tags) (f x.tags) x.bindings h) [
        | inl k ↦ (let t : r.tags ≡ x.tags = told r.tags x.tags k.0 in let same : r ≡ x = same_parts r x t k.1 in inl (inl same))
        | inr o ↦ inr o
      ]
    ]
  where
    same_parts : (r x : Row) → r.tags ≡ x.tags → r.bindings ≡ x.bindings → r ≡ x
    same_parts r x s t = λ i. record { tags = s i; bindings = t i }

puts_kept : (rs : List Row) (f : Found) (q : List ℕ) (b : Bindings) → f q ≡ Some b → (c : Bindings) × (puts rs f q ≡ Some c)
puts_kept [] f q b e = (b, e)
puts_kept (r ∷ rs) f q b e =
    let first = put_kept r (same_tags r.tags q) (f q) b e in
    puts_kept rs (put_at r f) q first.0 first.1

put_here : (r : Row) (f : Found) → put_at r f r.tags ≡ Some (unwrap_or (f r.tags) r.bindings)
put_here r f = ap (λ s. cond s (Some (unwrap_or (f r.tags) r.bindings)) (f r.tags)) (telling r.tags r.tags refl)

puts_there : (rs : List Row) (f : Found) (r : Row) → IsIn r rs → (c : Bindings) × (puts rs f r.tags ≡ Some c)
puts_there [] f r h = absurd h
puts_there (s ∷ rs) f r (inl e) = puts_kept rs (put_at s f) r.tags (unwrap_or (f s.tags) s.bindings) (ap (λ (y : Row). put_at s f y.tags) (sym e) ∙ put_here s f)
puts_there (s ∷ rs) f r (inr h) = puts_there rs (put_at s f) r h

only_new : (f : Found) (old new come : List Row) (gone : List (List ℕ)) → Holds f old → RowsChange old new come gone
    → (x : Row) → puts come (takens gone f) x.tags ≡ Some x.bindings → IsIn x new
only_new f old new come gone holds change x e =
    elim (puts_some come (takens gone f) x e) [
      | inl i ↦ change.here x i
      | inr h ↦ (let was = takens_some gone f x.tags x.bindings h in
          elim (change.lost x ((holds x).0 was.0)) [ inl i ↦ i | inr i ↦ absurd (was.1 i) ])
    ]

-- A memory that held the rows before the change, and takes what goes away and puts what comes, holds the rows after it.
pub change_holds : (f : Found) (old new come : List Row) (gone : List (List ℕ))
    → Holds f old → RowsChange old new come gone → OneEach new → Holds (puts come (takens gone f)) new
change_holds f old new come gone holds change one x = (only_new f old new come gone holds change x, back)
  where
    some_row : (c : Bindings) → puts come (takens gone f) x.tags ≡ Some c → IsIn x new → puts come (takens gone f) x.tags ≡ Some x.bindings
    some_row c e i =
        let y : Row = record { tags = x.tags; bindings = c } in
        let same : y ≡ x = one y x (only_new f old new come gone holds change y e) i refl in
        e ∙ ap (λ (r : Row). let o : Option Bindings = Some r.bindings in o) same

    back : IsIn x new → puts come (takens gone f) x.tags ≡ Some x.bindings
    back i =
        elim (change.fresh x i) [
          | inl o ↦ (let kept = puts_kept come (takens gone f) x.tags x.bindings (takens_back gone f x.tags x.bindings ((holds x).1 o) (change.away x i)) in some_row kept.0 kept.1 i)
          | inr k ↦ (let there = puts_there come (takens gone f) x k in some_row there.0 there.1 i)
        ]

pub puts_same : (rs : List Row) (f g : Found) → ((q : List ℕ) → f q ≡ g q) → (q : List ℕ) → puts rs f q ≡ puts rs g q
puts_same rs f g e q = ap (λ (h : Found). puts rs h q) (λ i p. e p i)

takens_same : (ts : List (List ℕ)) (f g : Found) → ((q : List ℕ) → f q ≡ g q) → (q : List ℕ) → takens ts f q ≡ takens ts g q
takens_same ts f g e q = ap (λ (h : Found). takens ts h q) (λ i p. e p i)

pub put_next : (rs : List Row) (i : ℕ) (r : Row) (f g : Found) → i < length rs → r ≡ get_or rs i r → ((q : List ℕ) → g q ≡ put_at r f q)
    → (q : List ℕ) → puts (drop (i + 1) rs) g q ≡ puts (drop i rs) f q
put_next rs i r f g h e step q =
    puts_same (drop (i + 1) rs) g (put_at r f) step q ∙ sym (ap (λ l. puts l f q) (from_here rs i r h ∙ ap (λ x. x ∷ drop (i + 1) rs) (sym e)))

pub take_next : (ts : List (List ℕ)) (i : ℕ) (t : List ℕ) (f g : Found) → i < length ts → t ≡ get_or ts i t → ((q : List ℕ) → g q ≡ taken_at t f q)
    → (q : List ℕ) → takens (drop (i + 1) ts) g q ≡ takens (drop i ts) f q
take_next ts i t f g h e step q =
    takens_same (drop (i + 1) ts) g (taken_at t f) step q ∙ sym (ap (λ l. takens l f q) (from_here ts i t h ∙ ap (λ x. x ∷ drop (i + 1) ts) (sym e)))

-- maps that find the same hold the same rows
pub holds_same : (f g : Found) (rows : List Row) → Holds f rows → ((q : List ℕ) → g q ≡ f q) → Holds g rows
holds_same f g rows h same x = ((λ e. (h x).0 (sym (same x.tags) ∙ e)), λ i. same x.tags ∙ (h x).1 i)

-- all rows come to an empty memory
pub fills : (rows : List Row) → RowsChange [] rows rows []
fills rows = record { fresh = λ x h. inr h; here = λ x h. h; lost = λ x h. absurd h; away = λ x h g. g }
