-- What stands under the keys after changes.
use Rattle.std.proofs.Common.{◌≡◌, ℕ, Bool, true, false, ◌&&◌, ◌==◌, cond, [], Option, is_some, refl, sym, ap, ap₂, subst, ◌∙◌}
use Rattle.std.specs.Map.{lookup}
use Rattle.std.specs.Ordering.{is_eq, nat_cmp}
use Rattle.std.specs.declared.cmp.Ordering.{Ordering}
use Rattle.soar_sym.specs.declared.symbol.Sym.{Sym}
use Rattle.soar_wm.proofs.KeyLemmas.{cmp_same, nat_same, then_same}
use Rattle.soar_prefs.specs.declared.index.Index.{Index}
use Rattle.soar_prefs.specs.declared.key.Key.{Key}
use Rattle.soar_prefs.specs.declared.key.Key.TheVariants.{Firing, Id, Variablized, Triple}
use Rattle.soar_prefs.specs.Places.{Places, place_cmp, stands, Writes, firing_cmp, sym_cmp, slot_cmp, triple_cmp}
use Rattle.soar_prefs.specs.Store.{same_key, same_place, has, has_key}
use Rattle.soar_prefs.proofs.KeyLemmas.{firing_same, slot_same, triple_same}

-- ---- one map

abbrev pub at_place : {K : Type 0} → (K → K → Ordering) → Places K → K × ℕ → Option (Unit {0})
at_place cmp places q = lookup (λ k. is_eq (place_cmp cmp q k)) places

pub wrote : {K : Type 0} (cmp : K → K → Ordering) (old new : Places K) (p : K × ℕ) (w : Option (Unit {0})) → ((q : K × ℕ) → at_place cmp new q ≡ cond (is_eq (place_cmp cmp p q)) w (at_place cmp old q)) → Writes cmp p (is_some w) old new
wrote cmp old new p w up q = ap is_some (up q) ∙ by (is_eq (place_cmp cmp p q))
  where
    by : (b : Bool) → is_some (cond b w (at_place cmp old q)) ≡ cond b (is_some w) (stands cmp old q)
    by true = refl
    by false = refl

-- ---- all maps

at : {K : Type 0} (cmp : K → K → Ordering) (a b : K) (n m : ℕ) (same : Bool) → is_eq (cmp a b) ≡ same → is_eq (place_cmp cmp (a, n) (b, m)) ≡ (same && (n == m))
at cmp a b n m same is = then_same (cmp a b) (nat_cmp n m) ∙ ap₂ (λ x y. x && y) is (nat_same n m)

module _ (old new : Index) (n : ℕ) (now : Bool) where
  -- at the place of the key stands this now, and at others what stood there
  abbrev Is : Key → Type 0
  Is key = (q : Key × ℕ) → has new q ≡ cond (same_place (key, n) q) now (has old q)

  pub at_firing : (key : Key) (s : Bool) (f : ℕ) → key ≡ Firing s f → Writes firing_cmp ((s, f), n) now old.firings.entries new.firings.entries
      → new.ids.entries ≡ old.ids.entries → new.slots.entries ≡ old.slots.entries → new.triples.entries ≡ old.triples.entries → Is key
  at_firing key s f is writes ids slots triples = subst Is (sym is) (λ q. by q.0 q.1)
    where
      by : (k : Key) (m : ℕ) → has_key new k m ≡ cond (same_key (Firing s f) k && (n == m)) now (has_key old k m)
      by (Firing t g) m = writes ((t, g), m) ∙ ap (λ b. cond b now (has_key old (Firing t g) m)) (at firing_cmp (s, f) (t, g) n m _ (firing_same (s, f) (t, g)))
      by (Id a) m = ap (λ es. stands sym_cmp es (a, m)) ids
      by (Variablized a b) m = ap (λ es. stands slot_cmp es ((a, b), m)) slots
      by (Triple a b c) m = ap (λ es. stands triple_cmp es ((a, b, c), m)) triples

  pub at_id : (key : Key) (id : Sym) → key ≡ Id id → Writes sym_cmp (id, n) now old.ids.entries new.ids.entries
      → new.firings.entries ≡ old.firings.entries → new.slots.entries ≡ old.slots.entries → new.triples.entries ≡ old.triples.entries → Is key
  at_id key id is writes firings slots triples = subst Is (sym is) (λ q. by q.0 q.1)
    where
      by : (k : Key) (m : ℕ) → has_key new k m ≡ cond (same_key (Id id) k && (n == m)) now (has_key old k m)
      by (Firing t g) m = ap (λ es. stands firing_cmp es ((t, g), m)) firings
      by (Id a) m = writes (a, m) ∙ ap (λ b. cond b now (has_key old (Id a) m)) (at sym_cmp id a n m _ (cmp_same id a))
      by (Variablized a b) m = ap (λ es. stands slot_cmp es ((a, b), m)) slots
      by (Triple a b c) m = ap (λ es. stands triple_cmp es ((a, b, c), m)) triples

  pub at_slot : (key : Key) (id attr : Sym) → key ≡ Variablized id attr → Writes slot_cmp ((id, attr), n) now old.slots.entries new.slots.entries
      → new.firings.entries ≡ old.firings.entries → new.ids.entries ≡ old.ids.entries → new.triples.entries ≡ old.triples.entries → Is key
  at_slot key id attr is writes firings ids triples = subst Is (sym is) (λ q. by q.0 q.1)
    where
      by : (k : Key) (m : ℕ) → has_key new k m ≡ cond (same_key (Variablized id attr) k && (n == m)) now (has_key old k m)
      by (Firing t g) m = ap (λ es. stands firing_cmp es ((t, g), m)) firings
      by (Id a) m = ap (λ es. stands sym_cmp es (a, m)) ids
      by (Variablized a b) m = writes ((a, b), m) ∙ ap (λ x. cond x now (has_key old (Variablized a b) m)) (at slot_cmp (id, attr) (a, b) n m _ (slot_same (id, attr) (a, b)))
      by (Triple a b c) m = ap (λ es. stands triple_cmp es ((a, b, c), m)) triples

  pub at_triple : (key : Key) (id attr value : Sym) → key ≡ Triple id attr value → Writes triple_cmp ((id, attr, value), n) now old.triples.entries new.triples.entries
      → new.firings.entries ≡ old.firings.entries → new.ids.entries ≡ old.ids.entries → new.slots.entries ≡ old.slots.entries → Is key
  at_triple key id attr value is writes firings ids slots = subst Is (sym is) (λ q. by q.0 q.1)
    where
      by : (k : Key) (m : ℕ) → has_key new k m ≡ cond (same_key (Triple id attr value) k && (n == m)) now (has_key old k m)
      by (Firing t g) m = ap (λ es. stands firing_cmp es ((t, g), m)) firings
      by (Id a) m = ap (λ es. stands sym_cmp es (a, m)) ids
      by (Variablized a b) m = ap (λ es. stands slot_cmp es ((a, b), m)) slots
      by (Triple a b c) m = writes ((a, b, c), m) ∙ ap (λ x. cond x now (has_key old (Triple a b c) m)) (at triple_cmp (id, attr, value) (a, b, c) n m _ (triple_same (id, attr, value) (a, b, c)))

-- what stands where no map changed
pub as_before : (old new : Index) → new.firings.entries ≡ old.firings.entries → new.ids.entries ≡ old.ids.entries → new.slots.entries ≡ old.slots.entries → new.triples.entries ≡ old.triples.entries
    → (q : Key × ℕ) → has new q ≡ has old q
as_before old new firings ids slots triples q = by q.0 q.1
  where
    by : (k : Key) (m : ℕ) → has_key new k m ≡ has_key old k m
    by (Firing t g) m = ap (λ es. stands firing_cmp es ((t, g), m)) firings
    by (Id a) m = ap (λ es. stands sym_cmp es (a, m)) ids
    by (Variablized a b) m = ap (λ es. stands slot_cmp es ((a, b), m)) slots
    by (Triple a b c) m = ap (λ es. stands triple_cmp es ((a, b, c), m)) triples

-- nothing stands where all maps are empty
pub nothing : (index : Index) → index.firings.entries ≡ [] → index.ids.entries ≡ [] → index.slots.entries ≡ [] → index.triples.entries ≡ [] → (q : Key × ℕ) → has index q ≡ false
nothing index firings ids slots triples q = by q.0 q.1
  where
    by : (k : Key) (m : ℕ) → has_key index k m ≡ false
    by (Firing t g) m = ap (λ es. stands firing_cmp es ((t, g), m)) firings
    by (Id a) m = ap (λ es. stands sym_cmp es (a, m)) ids
    by (Variablized a b) m = ap (λ es. stands slot_cmp es ((a, b), m)) slots
    by (Triple a b c) m = ap (λ es. stands triple_cmp es ((a, b, c), m)) triples
