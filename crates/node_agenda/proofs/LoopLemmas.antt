-- From one turn of the agenda to the next.
use Rattle.std.proofs.Common.{◌≡◌, ◌≢◌, ◌⊎◌, inl, inr, refl, sym, ap, subst, ◌∙◌, Bool, true, false, cond, not, ◌&&◌, ◌==◌, eq-eqb, ℕ, suc, ◌+◌, ◌<◌, ◌≤◌, List, [], ◌∷◌, ◌++◌, Option, Some, arith}
use Rattle.std.proofs.lemmas.Option.{same_Some}
use Rattle.std.proofs.lemmas.Bool.{cases_eq}
use Rattle.std.specs.List.{All}
use Rattle.std.specs.Cmp.{ranked}
use Rattle.std.specs.Ordering.{nat_cmp}
use Rattle.std.specs.declared.cmp.Ordering.TheVariants.{Less, Equal}
use Rattle.defs_match.specs.Laws.{IsIn, ElementsDiffer}
use Rattle.defs_match.specs.Rows.{Row}
use Rattle.soar_wm.specs.declared.element.Element.{Element}
use Rattle.node_memory.specs.Changes.{ElementsChange}
use Rattle.node_memory.specs.Held.{listed, Holds, SameElements}
use Rattle.node_memory.proofs.ChangeLemmas.{in_left, in_right}
use Rattle.node_memory.proofs.KeyLemmas.{then_less}
use Rattle.node_table.specs.declared.node.NodeKey.{NodeKey}
use Rattle.node_table.specs.declared.node.Node.{Node}
use Rattle.node_table.specs.Nodes.{uppers}
use Rattle.node_table.specs.Serving.{found, come_at, gone_at, IsKeyed, ServedAt}
use Rattle.node_table.specs.Content.{IsTable, Stands}
use Rattle.node_table.specs.Hearing.{is_nothing, hears_some, HasNoRows, MayHear, HearsAfter}
use Rattle.node_table.proofs.HearLemmas.{hear_moves, some_heard}
use Rattle.node_table.proofs.StandLemmas.{now, now_here, now_served, was, still, table_stays, stands_served}
use Rattle.node_agenda.specs.declared.turns.Turn.{Turn}
use Rattle.node_agenda.specs.declared.turns.TurnKey.{TurnKey}
use Rattle.node_agenda.specs.Turns.{turn_cmp, under}
use Rattle.node_agenda.specs.Agenda.{turn_of, is_changed, GoesOn, IsIdle, IsRowless, IsStill, IsTurn, IsLinked, IsLoop, Settles, AreServed}
use Rattle.node_agenda.proofs.AgendaLemmas.{settled}

pub all_in : {A : Type 0} (P : A → Type 0) (xs : List A) → All P xs → (x : A) → IsIn x xs → P x
all_in P [] h x i = absurd i
all_in P (y ∷ ys) h x (inl e) = subst P e (h 0 y (omega arith))
all_in P (y ∷ ys) h x (inr i) = all_in P ys (λ k d lt. h (suc k) d (omega (arith, lt))) x i

less_of : (x y : ℕ) → nat_cmp x y ≡ Less → x < y
less_of x y is = ranked x y Less (sym is)

equal_of : (x y : ℕ) → nat_cmp x y ≡ Equal → x ≡ y
equal_of x y is = ranked x y Equal (sym is)

turn_parts : (t u : Turn) → turn_cmp t u ≡ Less → (t.made < u.made) ⊎ ((t.made ≡ u.made) × (t.node < u.node))
turn_parts t u is = elim (then_less (nat_cmp t.made u.made) (nat_cmp t.node u.node) is) [
  | inl l ↦ inl (less_of t.made u.made l)
  | inr e ↦ inr (equal_of t.made u.made e.0, less_of t.node u.node e.1)
]

keyed_of : (nodes : ℕ → Option Node) (end : ℕ) → IsTable nodes end → (n : ℕ) (node : Node) (key : NodeKey) → nodes n ≡ Some node → node.key ≡ Some key → IsKeyed nodes n
keyed_of nodes end t n node key here keyed =
    let b = t.below n node key here keyed in
    record {
      node = node;
      key = key;
      parent = b.parent;
      here = here;
      keyed = keyed;
      above = b.above;
      joined = b.joined;
      indexed = t.indexed key.parent b.parent b.above;
      own = t.indexed n node here;
      inner = λ m i. (let a = b.each m (inr i) in (a.upper, a.there));
    }

pub turn_keyed : (nodes : ℕ → Option Node) (agenda : List Turn) (below : List TurnKey) (elements : List Element) (stamp floor end : ℕ) (come goes : Option Element) → IsLoop nodes agenda below elements stamp floor end come goes
    → (t : Turn) → IsIn t agenda → IsKeyed nodes t.node
turn_keyed nodes agenda below elements stamp floor end come goes l t i = (let it = l.turns t i in keyed_of nodes end l.table t.node it.0 it.1 it.2 it.3)

pub turn_early : (nodes : ℕ → Option Node) (agenda : List Turn) (below : List TurnKey) (elements : List Element) (stamp floor end : ℕ) (come goes : Option Element) → IsLoop nodes agenda below elements stamp floor end come goes
    → (t : Turn) → IsIn t agenda → (floor ≤ t.made) × (t.made < end)
turn_early nodes agenda below elements stamp floor end come goes l t i =
    (let it = l.turns t i in (it.5, subst (λ (x : ℕ). x < end) it.4 (l.table.early t.node it.0 it.2)))

is_among : (x : ℕ) (xs : List ℕ) → IsIn x xs ⊎ ((y : ℕ) → IsIn y xs → y ≡ x → ⊥)
is_among x [] = inr (λ y i. absurd i)
is_among x (z ∷ zs) = by (cases_eq z x) (is_among x zs)
  where
    by : (z ≡ x) ⊎ (z ≢ x) → IsIn x zs ⊎ ((y : ℕ) → IsIn y zs → y ≡ x → ⊥) → IsIn x (z ∷ zs) ⊎ ((y : ℕ) → IsIn y (z ∷ zs) → y ≡ x → ⊥)
    by (inl e) deep = inl (inl e)
    by (inr ne) (inl i) = inl (inr i)
    by (inr ne) (inr none) = inr (λ y i e. elim i [ inl f ↦ ne (f ∙ e) | inr k ↦ none y k e ])

module _ (old new : ℕ → Option Node) (rest : List Turn) (t : Turn) (below : List TurnKey) (elements : List Element) (stamp floor end : ℕ) (index : List Element) (come goes : Option Element) (l : IsLoop old (t ∷ rest) below elements stamp floor end come goes) (above : (u : Turn) → IsIn u rest → turn_cmp t u ≡ Less) (alike : SameElements index elements)
    (s : ServedAt old new t.node stamp index come goes) (hearing : HearsAfter old new t.node elements) (after : List Turn) (g : GoesOn (new t.node) t.node below rest after) where
  j : IsKeyed old t.node
  unfolding turn_keyed
  j = turn_keyed old (t ∷ rest) below elements stamp floor end come goes l t (inl refl)

  its_made : j.node.made ≡ t.made
  its_made = (let it = l.turns t (inl refl) in ap (λ (m : Node). m.made) (same_Some j.node it.0 (sym j.here ∙ it.2)) ∙ it.4)

  its_floor : floor ≤ t.made
  its_floor = (l.turns t (inl refl)).5

  unserved : (j.node.stamp == stamp) ≡ false
  unserved = by (j.node.stamp == stamp) refl
    where
      by : (b : Bool) → (j.node.stamp == stamp) ≡ b → (j.node.stamp == stamp) ≡ false
      by true is = (let d : j.node.made < floor = l.done t.node j.node j.here is in let m : j.node.made ≡ t.made = its_made in let f : floor ≤ t.made = its_floor in absurd (omega (arith, d, m, f)))
      by false is = is

  later : (u : Turn) → IsIn u (t ∷ rest) → t.made ≤ u.made
  later u (inl e) = subst (λ (x : Turn). t.made ≤ x.made) e (omega arith)
  later u (inr i) = elim (turn_parts t u (above u i)) [ inl lt ↦ omega (arith, lt) | inr e ↦ (let q : t.made ≡ u.made = e.0 in omega (arith, q)) ]

  -- The nodes stand as they should when this one is served.
  pub stands_on : (w0 w1 : List Element) → Stands old stamp w0 w1 → ElementsChange w0 w1 (listed come) (listed goes) → SameElements index w1 → ElementsDiffer w1 → Stands new stamp w0 w1
  stands_on w0 w1 stands ec same differ =
      stands_served old new t.node stamp index come goes s j end w0 w1 l.table stands unserved (λ m a.
      let early : a.upper.made < t.made = subst (λ (x : ℕ). a.upper.made < x) its_made a.made in
      settled old (t ∷ rest) below elements stamp floor end come goes l w0 w1 stands ec (λ e. ((λ i. (same e).0 ((alike e).1 i)), λ i. (alike e).0 ((same e).1 i))) t.made later a.upper.made m a.upper a.there (omega arith) early) ec same differ

  later_on : (u : Turn) → IsIn u rest → t.made + 1 ≤ u.made
  later_on u i = elim (turn_parts t u (above u i)) [
    | inl lt ↦ omega (arith, lt)
    | inr e ↦ (
        let it = l.turns u (inr i) in
        let same : t.node ≡ u.node = l.table.once t.node u.node j.node it.0 j.here it.2 (its_made ∙ e.0 ∙ sym it.4) in
        let lt : t.node < u.node = e.1 in
        absurd (omega (arith, same, lt)))
  ]

  child_turn : (u : Turn) → IsIn (under t.node u) below → IsTurn new (t.made + 1) u
  child_turn u i =
      let it = l.links.names (under t.node u) i in
      let a = (l.table.below u.node it.0 it.1 it.2 it.3).each t.node it.4 in
      let m = still old new t.node stamp index come goes s j u.node it.0 it.2 in
      let same : a.upper ≡ j.node = same_Some a.upper j.node (sym a.there ∙ j.here) in
      let past : t.made < u.made = subst (λ (x : ℕ). t.made < x) it.5 (subst (λ (x : ℕ). x < it.0.made) (ap (λ (x : Node). x.made) same ∙ its_made) a.made) in
      (m.0, it.1, m.1, m.2.key ∙ it.3, m.2.made ∙ it.5, omega (arith, past))

  rest_turn : (u : Turn) → IsIn u rest → IsTurn new (t.made + 1) u
  rest_turn u i =
      let it = l.turns u (inr i) in
      let m = still old new t.node stamp index come goes s j u.node it.0 it.2 in
      (m.0, it.1, m.1, m.2.key ∙ it.3, m.2.made ∙ it.4, later_on u i)

  abbrev its_now : Node
  its_now = now old new t.node stamp index come goes s j

  is_now : (m : Node) → new t.node ≡ Some m → its_now ≡ m
  is_now m there = same_Some (now old new t.node stamp index come goes s j) m (sym (now_here old new t.node stamp index come goes s j) ∙ there)

  served_now : (m : Node) → new t.node ≡ Some m → (m.stamp == stamp) ≡ true
  served_now m there = eq-eqb m.stamp stamp (ap (λ (x : Node). x.stamp) (sym (is_now m there)) ∙ (now_served old new t.node stamp index come goes s j).stamp)

  made_now : (m : Node) → new t.node ≡ Some m → m.made ≡ t.made
  made_now m there = ap (λ (x : Node). x.made) (sym (is_now m there)) ∙ (now_served old new t.node stamp index come goes s j).made ∙ its_made

  -- the parent of a node that was not made later is another than the one that was served
  apart : (n : ℕ) (node : Node) (key : NodeKey) → old n ≡ Some node → node.key ≡ Some key → node.made ≤ t.made → key.parent ≢ t.node
  apart n node key here keyed low e =
      let a = (l.table.below n node key here keyed).each key.parent (inl refl) in
      let same : a.upper ≡ j.node = same_Some a.upper j.node (sym a.there ∙ ap old e ∙ j.here) in
      let up : a.upper.made ≡ t.made = ap (λ (x : Node). x.made) same ∙ its_made in
      let less : a.upper.made < node.made = a.made in
      omega (arith, low, up, less)

  none_on : (p : ℕ) → p ≢ t.node → HasNoRows old p → HasNoRows new p
  none_on p ne none u up = none u (sym (s.others p ne) ∙ up)

  key_now : (m : Node) (key : NodeKey) → new t.node ≡ Some m → m.key ≡ Some key → j.node.key ≡ Some key
  key_now m key there keyed = sym (now_served old new t.node stamp index come goes s j).key ∙ ap (λ (x : Node). x.key) (is_now m there) ∙ keyed

  enough_now : (m : Node) (key : NodeKey) → new t.node ≡ Some m → m.key ≡ Some key → MayHear old key elements m.hears.rows m.hears.elements
  enough_now m key there keyed = (let own = key_now m key there keyed in hearing m there j.node key j.here own (l.hears t.node j.node key j.here own))

  -- a node that was served hears of all that may change its rows
  pub heard_on : (n : ℕ) (node : Node) (key : NodeKey) → new n ≡ Some node → node.key ≡ Some key → (node.stamp == stamp) ≡ true → MayHear new key elements node.hears.rows node.hears.elements
  heard_on n node key there keyed served = elim (cases_eq n t.node) [
    | inl e ↦ (
        let at = ap new (sym e) ∙ there in
        let made : j.node.made ≡ t.made = its_made in
        hear_moves old new key elements node.hears.rows node.hears.elements (none_on key.parent (apart t.node j.node key j.here (key_now node key at keyed) (omega (arith, made)))) (enough_now node key at keyed))
    | inr ne ↦ (
        let was_ = sym (s.others n ne) ∙ there in
        let d : node.made < floor = l.done n node was_ served in
        let f : floor ≤ t.made = its_floor in
        hear_moves old new key elements node.hears.rows node.hears.elements (none_on key.parent (apart n node key was_ keyed (omega (arith, d, f)))) (l.heard n node key was_ keyed served))
  ]

  pub hears_on : (n : ℕ) (node : Node) (key : NodeKey) → new n ≡ Some node → node.key ≡ Some key → hears_some node.hears ≡ true
  hears_on n node key there keyed = elim (cases_eq n t.node) [
    | inl e ↦ some_heard old key elements node.hears.rows node.hears.elements (enough_now node key (ap new (sym e) ∙ there) keyed)
    | inr ne ↦ l.hears n node key (sym (s.others n ne) ∙ there) keyed
  ]

  unchanged : {A B : Type 0} (xs : List A) (ys : List B) → not (is_nothing xs && is_nothing ys) ≡ false → (xs ≡ []) × (ys ≡ [])
  unchanged [] [] h = (refl, refl)
  unchanged [] (y ∷ ys) h = absurd (cc)
  unchanged (x ∷ xs) ys h = absurd (cc)

  none_of : {A : Type 0} (xs : List A) → (d : Bool) → xs ≡ [] → cond d xs [] ≡ []
  none_of xs true e = e
  none_of xs false e = refl

  -- what the node tells that was served, where its rows have not changed
  calm_now : is_changed its_now ≡ false → (m : Node) → new t.node ≡ Some m → (come_at stamp m ≡ []) × (gone_at stamp m ≡ [])
  calm_now is m there =
      let none = unchanged its_now.come.items its_now.gone.items is in
      let same : its_now ≡ m = is_now m there in (
        subst (λ (x : Node). come_at stamp x ≡ []) same (none_of its_now.come.items (its_now.stamp == stamp) none.0),
        subst (λ (x : Node). gone_at stamp x ≡ []) same (none_of its_now.gone.items (its_now.stamp == stamp) none.1),
      )

  -- and its rows, where it had none
  none_now : is_changed its_now ≡ false → HasNoRows old t.node → HasNoRows new t.node
  none_now is empty m there =
      let served = now_served old new t.node stamp index come goes s j in
      let none : s.come_list ≡ [] = sym served.come ∙ (unchanged its_now.come.items its_now.gone.items is).0 in
      subst (λ (x : Node). Holds (found x.memory) []) (is_now m there)
      (served.holds [] [] (empty j.node j.here) (record { fresh = λ x i. absurd i; here = λ x i. subst (λ (rs : List Row). IsIn x rs) none i; lost = λ x i. absurd i; away = λ x i k. i }) (λ x y i k same. absurd i))

  -- one that was idle, where the node that was served has changed and it reads that, or not
  idle_on : (d : Bool) → is_changed its_now ≡ d → (n : ℕ) (node : Node) (key : NodeKey) → old n ≡ Some node → node.key ≡ Some key → node.hears.rows ≡ true → IsIdle old stamp come goes key → IsIn (turn_of node n) after ⊎ IsIdle new stamp come goes key
  idle_on false is n node key was_ keyed hears idle =
      inr (record {
        out = idle.out;
        none_came = λ u i upper up. elim (cases_eq u t.node) [ inl e ↦ (calm_now is upper (ap new (sym e) ∙ up)).0 | inr ne ↦ idle.none_came u i upper (sym (s.others u ne) ∙ up) ];
        none_went = λ u i upper up. elim (cases_eq u t.node) [ inl e ↦ (calm_now is upper (ap new (sym e) ∙ up)).1 | inr ne ↦ idle.none_went u i upper (sym (s.others u ne) ∙ up) ];
      })
  idle_on true is n node key was_ keyed hears idle = by_all (is_among t.node (uppers key))
    where
      by_all : IsIn t.node (uppers key) ⊎ ((y : ℕ) → IsIn y (uppers key) → y ≡ t.node → ⊥) → IsIn (turn_of node n) after ⊎ IsIdle new stamp come goes key
      by_all (inl i) = inl (g.children its_now (now_here old new t.node stamp index come goes s j) is (turn_of node n) (l.links.covers n node key was_ keyed hears t.node i))
      by_all (inr away) = inr (record {
        out = idle.out;
        none_came = λ u i upper up. idle.none_came u i upper (sym (s.others u (away u i)) ∙ up);
        none_went = λ u i upper up. idle.none_went u i upper (sym (s.others u (away u i)) ∙ up);
      })

  rowless_on : (d : Bool) → is_changed its_now ≡ d → (n : ℕ) (node : Node) (key : NodeKey) → old n ≡ Some node → node.key ≡ Some key → node.hears.rows ≡ true → IsRowless old stamp key → IsIn (turn_of node n) after ⊎ IsRowless new stamp key
  rowless_on d is n node key was_ keyed hears still = by d is (cases_eq key.parent t.node)
    where
      by : (d : Bool) → is_changed its_now ≡ d → (key.parent ≡ t.node) ⊎ (key.parent ≢ t.node) → IsIn (turn_of node n) after ⊎ IsRowless new stamp key
      by d is (inr ne) = inr (record {
        none_came = λ upper up. still.none_came upper (sym (s.others key.parent ne) ∙ up);
        none_went = λ upper up. still.none_went upper (sym (s.others key.parent ne) ∙ up);
        no_rows = none_on key.parent ne still.no_rows;
      })
      by true is (inl e) = inl (g.children its_now (now_here old new t.node stamp index come goes s j) is (turn_of node n) (l.links.covers n node key was_ keyed hears t.node (inl e)))
      by false is (inl e) = inr (record {
        none_came = λ upper up. (calm_now is upper (ap new (sym e) ∙ up)).0;
        none_went = λ upper up. (calm_now is upper (ap new (sym e) ∙ up)).1;
        no_rows = subst (HasNoRows new) (sym e) (none_now is (subst (HasNoRows old) e still.no_rows));
      })

  still_on : (r e : Bool) (n : ℕ) (node : Node) (key : NodeKey) → old n ≡ Some node → node.key ≡ Some key → node.hears.rows ≡ r → IsStill old elements stamp come goes key r e → IsIn (turn_of node n) after ⊎ IsStill new elements stamp come goes key r e
  still_on true true n node key was_ keyed hears still = idle_on (is_changed its_now) refl n node key was_ keyed hears still
  still_on true false n node key was_ keyed hears still = rowless_on (is_changed its_now) refl n node key was_ keyed hears still
  still_on false true n node key was_ keyed hears still = inr still
  still_on false false n node key was_ keyed hears still = absurd still

  waits_on : (n : ℕ) (node : Node) (key : NodeKey) → new n ≡ Some node → node.key ≡ Some key → (node.stamp == stamp) ≡ false → IsIn (turn_of node n) after ⊎ IsStill new elements stamp come goes key node.hears.rows node.hears.elements
  waits_on n node key there keyed unserved_ = elim (cases_eq n t.node) [
    | inl e ↦ (let bad : true ≡ false = sym (served_now node (ap new (sym e) ∙ there)) ∙ unserved_ in absurd (cc))
    | inr ne ↦ (
        let was_ : old n ≡ Some node = sym (s.others n ne) ∙ there in
        elim (l.waits n node key was_ keyed unserved_) [
          | inl i ↦ elim i [ inl e ↦ absurd (ne (ap (λ (u : Turn). u.node) (sym e))) | inr r ↦ inl (g.kept (turn_of node n) r) ]
          | inr still ↦ still_on node.hears.rows node.hears.elements n node key was_ keyed refl still
        ])
  ]

  -- the loop goes on, with those that read the node where its rows have changed
  pub loop_on : (below1 : List TurnKey) → IsLinked new below1 → IsLoop new after below1 elements stamp (t.made + 1) end come goes
  loop_on below1 links_on =
      record {
        table = table_stays old new t.node stamp index come goes s j end l.table;
        turns = λ u i. elim (g.from u i) [ inl c ↦ child_turn u c | inr r ↦ rest_turn u r ];
        done = done_of;
        waits = waits_on;
        heard = heard_on;
        hears = hears_on;
        links = links_on;
      }
    where
      done_of : (n : ℕ) (node : Node) → new n ≡ Some node → (node.stamp == stamp) ≡ true → node.made < t.made + 1
      done_of n node there served = elim (cases_eq n t.node) [
        | inl e ↦ (let same : node.made ≡ t.made = made_now node (ap new (sym e) ∙ there) in omega (arith, same))
        | inr ne ↦ (let d : node.made < floor = l.done n node (sym (s.others n ne) ∙ there) served in let f : floor ≤ t.made = its_floor in omega (arith, d, f))
      ]

  -- what of the nodes is not their rows stays
  pub settles_on : (first : ℕ → Option Node) → Settles first old stamp → Settles first new stamp
  settles_on first before =
      record {
        stays = λ n node there.
            let o = was old new t.node stamp index come goes s j n node there in
            let f = before.stays n o.0 o.1 in
            (f.0, f.1, o.2.key ∙ f.2, o.2.made ∙ f.3, o.2.alpha ∙ f.4, o.2.requests ∙ f.5, stamps n node there o.0 o.1 f.0 f.6);
        still = λ n w at.
            let o = before.still n w at in
            let x = still old new t.node stamp index come goes s j n o.0 o.1 in
            (x.0, x.1);
      }
    where
      stamps : (n : ℕ) (node : Node) → new n ≡ Some node → (o : Node) → old n ≡ Some o → (f : Node) → (o.stamp ≡ f.stamp) ⊎ (o.stamp ≡ stamp) → (node.stamp ≡ f.stamp) ⊎ (node.stamp ≡ stamp)
      stamps n node there o at f h = elim (cases_eq n t.node) [
        | inl e ↦ inr (ap (λ (x : Node). x.stamp) (sym (is_now node (ap new (sym e) ∙ there))) ∙ (now_served old new t.node stamp index come goes s j).stamp)
        | inr ne ↦ (let same : o ≡ node = same_Some o node (sym at ∙ sym (s.others n ne) ∙ there) in elim h [ inl e ↦ inl (ap (λ (x : Node). x.stamp) (sym same) ∙ e) | inr e ↦ inr (ap (λ (x : Node). x.stamp) (sym same) ∙ e) ])
      ]

  -- the node is listed now too
  pub served_on : (served : List ℕ) → AreServed old stamp served → AreServed new stamp (served ++ t.node ∷ [])
  served_on served listed n node there stamped = elim (cases_eq n t.node) [
    | inl e ↦ in_right n served (t.node ∷ []) (inl (sym e))
    | inr ne ↦ in_left n served (t.node ∷ []) (listed n node (sym (s.others n ne) ∙ there) stamped)
  ]
