-- An explanation that is found in a lawful history is lawful.
use Rattle.std.proofs.Common.{◌≡◌, refl, sym, ◌∙◌, ap, subst, ℕ, ◌<◌, Bool, true, false, ◌==◌, inl, inr, ◌⊎◌, arith, List, [], ◌∷◌, ◌++◌, map, flat_map, filter, append_assoc}
use Rattle.std.specs.Prelude.{not}
use Rattle.soar_sym.specs.Words.{Texts}
use Rattle.soar_wm.specs.declared.element.Element.{Element}
use Rattle.defs_soar.specs.declared.firing.How.{How}
use Rattle.defs_soar.specs.declared.firing.How.TheVariants as how
use Rattle.defs_soar.specs.declared.firing.Used.{Used}
use Rattle.defs_soar.specs.declared.preference.Wish.{Wish}
use Rattle.defs_soar.specs.ChainIdentifiers.{firing_in, firings_of}
use Rattle.defs_soar.specs.Explanation.{architecture_of, as_item_step, as_select_step, by_tag, chain_of, explaining, firing_of, firing_steps, is_seen, item_of, maker_named, TagNaming, naming_eq, namings_in_order, selection_of, upper_of}
use Rattle.defs_soar.specs.History.{FiringOf, StepOf, architecture_step, item_step, fire_step, ChainOf}
use Rattle.defs_soar.specs.Laws.{IsIn}
use Rattle.learning_laws.specs.Lawful.{IsLawful, IsMadeBefore, IsNamedGround, IsNamedMade, StandsOn, StepsStand}
use Rattle.learning_laws.specs.Laws.{ExplanationsAreLawful}
use Rattle.learning_laws.specs.Record.{AreRoots, AreWishesOf, IsLawfulRecord, IsMadeEarlier, used_elements, UseIsLawful}
use Rattle.learning_laws.proofs.ExplainNumbers.{above_in, AreKnown, explains, IsClosed, IsExplaining, Rising}
use Rattle.learning_laws.proofs.Lists.{any_some, both_true, filter_keeps, filter_within, in_append, in_flat_map, in_flat_mapped, in_left, in_map, in_mapped, in_right, same_number}
use Rattle.learning_laws.proofs.StepLaws.{AllSteps, InOrder, Tell, TellNaming, architecture_stands, from_namings, from_tags, in_front, in_namings, in_tags, items_stand, made_before_more, order_append, selects_stand, stand_then}

module _ (words : Texts) (firings : List FiringOf) (w : List Element) (lawful : IsLawfulRecord words firings w) (roots : List ℕ) (known : AreRoots firings roots) where
  abbrev numbers : List ℕ
  numbers = explaining firings roots

  abbrev explained : List FiringOf
  explained = flat_map (firing_of firings) numbers

  abbrev uses : List Used
  uses = flat_map (λ f. f.used) explained

  -- ---- what explains

  are_known : AreKnown firings roots
  are_known = record {
    known_roots = λ n i. let f = known n i in subst (λ x. IsIn x (map (λ (f : FiringOf). f.number) firings)) f.2 (in_mapped (λ (f : FiringOf). f.number) f.0 firings f.1);
    known_makers = λ f i n j. let u = in_flat_map maker_named n f.used j in maker_known f i u.0 n u.1 u.2;
  }
    where
      of : (f : FiringOf) (e : Element) (h : How) (n : ℕ) → UseIsLawful firings f (record { element = e; how = h }) → IsIn n (maker_named (record { element = e; how = h })) → IsIn n (map (λ (f : FiringOf). f.number) firings)
      of f e how.Upper n l i = absurd i
      of f e how.Architecture n l i = absurd i
      of f e (how.Item tag) n l i = absurd i
      of f e (how.Selected tag) n l i = absurd i
      of f e (how.Made m) n l (inl q) =
          subst (λ x. IsIn x (map (λ (f : FiringOf). f.number) firings)) (l.number_is ∙ q) (in_mapped (λ (f : FiringOf). f.number) l.firing firings l.is_there)
      of f e (how.Made m) n l (inr j) = absurd j

      maker_known : (f : FiringOf) → IsIn f firings → (u : Used) (n : ℕ) → IsIn u f.used → IsIn n (maker_named u) → IsIn n (map (λ (f : FiringOf). f.number) firings)
      maker_known f i u n j k = of f u.element u.how n (lawful.uses f i u j) k

  abbrev good : IsExplaining firings roots numbers × IsClosed firings roots numbers
  good = explains firings roots are_known

  is_explained : (f : FiringOf) → IsIn f firings → IsIn f.number numbers → IsIn f explained
  is_explained f i j = in_flat_mapped (firing_of firings) f.number f numbers j (filter_keeps (λ g. g.number == f.number) firings f i (same_itself_number f.number))
    where
      same_itself_number : (n : ℕ) → (n == n) ≡ true
      same_itself_number n = grind arith

  pub from_explained : (f : FiringOf) → IsIn f explained → IsIn f firings × IsIn f.number numbers
  from_explained f i =
      let found = in_flat_map (firing_of firings) f numbers i in
      let k = filter_within (λ g. g.number == found.0) firings f found.2 in
      (k.0, subst (λ n. IsIn n numbers) (sym (same_number f.number found.0 k.1)) found.1)

  maker_explained : (f : FiringOf) (u : Used) (n : ℕ) (g : FiringOf) → IsIn f explained → IsIn u f.used → IsIn n (maker_named u) → IsIn g firings → g.number ≡ n → IsIn g explained
  maker_explained f u n g i j k l q =
      let from = from_explained f i in
      is_explained g l
      (subst (λ m. IsIn m numbers) (sym q)
      (good.1 n (in_flat_mapped (λ n. flat_map (λ f. flat_map maker_named f.used) (firing_of firings n)) f.number n numbers from.1
      (in_flat_mapped (λ (f : FiringOf). flat_map maker_named f.used) f n (firing_of firings f.number) (filter_keeps (λ g. g.number == f.number) firings f from.0 (own f.number)) (in_flat_mapped maker_named u n f.used j k)))))
    where
      own : (n : ℕ) → (n == n) ≡ true
      own n = grind arith

  explained_in_order : InOrder explained
  explained_in_order = all_in_order numbers good.0.rising
    where
      one : (n : ℕ) (fs : List FiringOf) → ((f : FiringOf) → IsIn f fs → f.number ≡ n) → InOrder fs
      one n [] h = tt
      one n (f ∷ fs) h =
          ((λ g i. let a : f.number ≡ n = h f (inl refl) in let b : g.number ≡ n = h g (inr i) in omega arith), one n fs (λ g i. h g (inr i)))

      of_number : (n : ℕ) (f : FiringOf) → IsIn f (firing_of firings n) → f.number ≡ n
      of_number n f i = same_number f.number n (filter_within (λ g. g.number == n) firings f i).1

      all_in_order : (ns : List ℕ) → Rising ns → InOrder (flat_map (firing_of firings) ns)
      all_in_order [] r = tt
      all_in_order (n ∷ ns) r =
          order_append (firing_of firings n) (flat_map (firing_of firings) ns) (one n (firing_of firings n) (λ f i. of_number n f i)) (all_in_order ns r.1)
          (λ f g i j. let found = in_flat_map (firing_of firings) g ns j in
          let a : f.number ≡ n = of_number n f i in
          let b : g.number ≡ found.0 = of_number found.0 g found.2 in
          let less : n < found.0 = above_in n found.0 ns r.0 found.1 in omega arith)

  -- ---- what the steps are

  abbrev grounds : List Element
  grounds = by_tag (flat_map upper_of uses)

  abbrev architecture : List StepOf
  architecture = map architecture_step (by_tag (flat_map architecture_of uses))

  abbrev items : List StepOf
  items = map as_item_step (namings_in_order (flat_map item_of uses))

  in_uses : (f : FiringOf) (u : Used) → IsIn f explained → IsIn u f.used → IsIn u uses
  in_uses f u i j = in_flat_mapped (λ (f : FiringOf). f.used) f u explained i j

  was_used : (u : Used) → IsIn u uses → IsIn u.element (used_elements firings)
  was_used u i =
      let f = in_flat_map (λ (f : FiringOf). f.used) u explained i in
      in_flat_mapped (λ (f : FiringOf). map (λ (u : Used). u.element) f.used) f.0 u.element firings (from_explained f.0 f.1).0 (in_mapped (λ (u : Used). u.element) u f.0.used f.2)

  -- what each kind of use gives
  from_upper : (e : Element) (u : Used) → IsIn e (upper_of u) → (u.element ≡ e)
  from_upper e u i = of u.element u.how i
    where
      of : (x : Element) (h : How) → IsIn e (upper_of (record { element = x; how = h })) → x ≡ e
      of x how.Upper (inl q) = q
      of x how.Upper (inr j) = absurd j
      of x how.Architecture j = absurd j
      of x (how.Item tag) j = absurd j
      of x (how.Selected tag) j = absurd j
      of x (how.Made n) j = absurd j

  from_architecture : (e : Element) (u : Used) → IsIn e (architecture_of u) → (u.element ≡ e)
  from_architecture e u i = of u.element u.how i
    where
      of : (x : Element) (h : How) → IsIn e (architecture_of (record { element = x; how = h })) → x ≡ e
      of x how.Architecture (inl q) = q
      of x how.Architecture (inr j) = absurd j
      of x how.Upper j = absurd j
      of x (how.Item tag) j = absurd j
      of x (how.Selected tag) j = absurd j
      of x (how.Made n) j = absurd j

  from_item : (n : TagNaming) (u : Used) → IsIn n (item_of u) → u ≡ record { element = n.element; how = how.Item n.named }
  from_item n u i = of u.element u.how i
    where
      of : (x : Element) (h : How) → IsIn n (item_of (record { element = x; how = h })) → ◌≡◌ {A = Used} (record { element = x; how = h }) (record { element = n.element; how = how.Item n.named })
      of x (how.Item tag) (inl q) = ap (λ (m : TagNaming). record { element = m.element; how = how.Item m.named }) q
      of x (how.Item tag) (inr j) = absurd j
      of x how.Upper j = absurd j
      of x how.Architecture j = absurd j
      of x (how.Selected tag) j = absurd j
      of x (how.Made n) j = absurd j

  from_selection : (n : TagNaming) (u : Used) → IsIn n (selection_of u) → u ≡ record { element = n.element; how = how.Selected n.named }
  from_selection n u i = of u.element u.how i
    where
      of : (x : Element) (h : How) → IsIn n (selection_of (record { element = x; how = h })) → ◌≡◌ {A = Used} (record { element = x; how = h }) (record { element = n.element; how = how.Selected n.named })
      of x (how.Selected tag) (inl q) = ap (λ (m : TagNaming). record { element = m.element; how = how.Selected m.named }) q
      of x (how.Selected tag) (inr j) = absurd j
      of x how.Upper j = absurd j
      of x how.Architecture j = absurd j
      of x (how.Item tag) j = absurd j
      of x (how.Made n) j = absurd j

  -- elements of one tag are one
  tell_used : (e f : Element) (u v : Used) → IsIn u uses → IsIn v uses → u.element ≡ e → v.element ≡ f → e.tag ≡ f.tag → e ≡ f
  tell_used e f u v i j p q t =
      sym p ∙ lawful.tags u.element v.element (was_used u i) (was_used v j) (ap (λ (x : Element). x.tag) p ∙ t ∙ sym (ap (λ (x : Element). x.tag) q)) ∙ q

  tell_upper : Tell (flat_map upper_of uses)
  tell_upper e f i j t =
      let a = in_flat_map upper_of e uses i in
      let b = in_flat_map upper_of f uses j in tell_used e f a.0 b.0 a.1 b.1 (from_upper e a.0 a.2) (from_upper f b.0 b.2) t

  tell_architecture : Tell (flat_map architecture_of uses)
  tell_architecture e f i j t =
      let a = in_flat_map architecture_of e uses i in
      let b = in_flat_map architecture_of f uses j in tell_used e f a.0 b.0 a.1 b.1 (from_architecture e a.0 a.2) (from_architecture f b.0 b.2) t

  tell_naming : (a b : TagNaming) (u v : Used) → IsIn u uses → IsIn v uses → u.element ≡ a.element → v.element ≡ b.element → naming_eq a b ≡ true → a ≡ b
  tell_naming a b u v i j p q h =
      let k = both_true (a.element.tag == b.element.tag) (a.named == b.named) h in
      let element = tell_used a.element b.element u v i j p q (same_number a.element.tag b.element.tag k.0) in
      let named = same_number a.named b.named k.1 in λ x. record { element = element x; named = named x }

  ground_in : (f : FiringOf) (e : Element) → IsIn f explained → IsIn (record { element = e; how = how.Upper }) f.used → IsIn e grounds
  ground_in f e i j =
      in_tags (flat_map upper_of uses) tell_upper e (in_flat_mapped upper_of (record { element = e; how = how.Upper }) e uses (in_uses f (record { element = e; how = how.Upper }) i j) (inl refl))

  tell_items : TellNaming (flat_map item_of uses)
  tell_items a b i j h =
      let x = in_flat_map item_of a uses i in
      let y = in_flat_map item_of b uses j in
      tell_naming a b x.0 y.0 x.1 y.1 (ap (λ (u : Used). u.element) (from_item a x.0 x.2)) (ap (λ (u : Used). u.element) (from_item b y.0 y.2)) h

  item_grounded : (n : TagNaming) → IsIn n (namings_in_order (flat_map item_of uses)) → IsNamedGround grounds n.element n.named
  item_grounded n i =
      let a = in_flat_map item_of n uses (from_namings (flat_map item_of uses) n i) in
      let f = in_flat_map (λ (f : FiringOf). f.used) a.0 explained a.1 in
      let names = lawful.uses f.0 (from_explained f.0 f.1).0 (record { element = n.element; how = how.Item n.named }) (subst (λ u. IsIn u f.0.used) (from_item n a.0 a.2) f.2) in
      record { named = names.named; is_ground = ground_in f.0 names.named f.1 names.is_used; tag_is = names.tag_is; value_is = names.value_is; marked = names.marked }

  -- ---- the firings and their selections

  record Ready (front : List FiringOf) (seen : List TagNaming) (before : List StepOf) : Type 0 where
    fired : (g : FiringOf) → IsIn g front → IsIn (fire_step g) before
    selected : (n : TagNaming) → IsIn n seen → IsIn (as_select_step n) before
    architecture_there : AllSteps architecture before
    items_there : AllSteps items before
    of_uses : (n : TagNaming) → IsIn n seen → (u : Used) × IsIn u uses × (u.element ≡ n.element)

  module _ (front : List FiringOf) (f : FiringOf) (back : List FiringOf) (seen : List TagNaming) (before : List StepOf) (parts : explained ≡ front ++ f ∷ back) (h : Ready front seen before) where
    abbrev new : List TagNaming
    new = filter (λ n. not (is_seen seen n)) (namings_in_order (flat_map selection_of f.used))

    here : IsIn f explained
    here = subst (λ l. IsIn f l) (sym parts) (in_right f front (f ∷ back) (inl refl))

    mine : IsIn f firings
    mine = (from_explained f here).0

    earlier_fired : (u : Used) (n : ℕ) (e : Element) → IsIn u f.used → IsIn n (maker_named u) → IsMadeEarlier firings f.number n e → IsMadeBefore before n e
    earlier_fired u n e i j m =
        let there = maker_explained f u n m.firing here i j m.is_there m.number_is in
        let less : m.firing.number < f.number = subst (λ x. x < f.number) (sym m.number_is) m.earlier in
        record {
          firing = m.firing;
          is_step = h.fired m.firing (in_front front back f m.firing (subst InOrder parts explained_in_order) (subst (λ l. IsIn m.firing l) parts there) less);
          number_is = m.number_is;
          makes = m.makes;
        }

    new_selected : (n : TagNaming) → IsIn n new → (IsIn (record { element = n.element; how = how.Selected n.named }) f.used)
    new_selected n i =
        let k = filter_within (λ n. not (is_seen seen n)) (namings_in_order (flat_map selection_of f.used)) n i in
        let u = in_flat_map selection_of n f.used (from_namings (flat_map selection_of f.used) n k.0) in subst (λ x. IsIn x f.used) (from_selection n u.0 u.2) u.1

    named_made : (n : TagNaming) → IsIn n new → IsNamedMade before n.element
    named_made n i =
        let names = lawful.uses f mine (record { element = n.element; how = how.Selected n.named }) (new_selected n i) in
        let u : Used = record { element = record n.element { accept = true; tag = n.named }; how = how.Made names.number } in
        let m = lawful.uses f mine u names.is_used in
        let made = earlier_fired u names.number (record n.element { accept = true; tag = n.named }) names.is_used (inl refl) m in
        record { number = names.number; made = record { firing = made.firing; is_step = made.is_step; number_is = made.number_is; makes = made.makes } }

    abbrev after : List StepOf
    after = before ++ map as_select_step new

    kept : AllSteps before after
    kept t i = in_left t before (map as_select_step new) i

    tell_selections : TellNaming (flat_map selection_of f.used)
    tell_selections a b i j q =
        let x = in_flat_map selection_of a f.used i in
        let y = in_flat_map selection_of b f.used j in
        tell_naming a b x.0 y.0 (in_uses f x.0 here x.1) (in_uses f y.0 here y.1) (ap (λ (u : Used). u.element) (from_selection a x.0 x.2)) (ap (λ (u : Used). u.element) (from_selection b y.0 y.2)) q

    selection_there : (n : TagNaming) → IsIn (record { element = n.element; how = how.Selected n.named }) f.used → IsIn (as_select_step n) after
    selection_there n i = go (is_seen seen n) refl
      where
        go : (b : Bool) → is_seen seen n ≡ b → IsIn (as_select_step n) after
        go true q =
            let found = any_some (naming_eq n) seen q in
            let other = h.of_uses found.0 found.1 in
            let same = tell_naming n found.0 (record { element = n.element; how = how.Selected n.named }) other.0 (in_uses f (record { element = n.element; how = how.Selected n.named }) here i) other.1 refl other.2 found.2 in
            kept (as_select_step n) (subst (λ m. IsIn (as_select_step m) before) (sym same) (h.selected found.0 found.1))
        go false q =
            in_right (as_select_step n) before (map as_select_step new)
            (in_mapped as_select_step n new
            (filter_keeps (λ n. not (is_seen seen n)) (namings_in_order (flat_map selection_of f.used)) n
            (in_namings (flat_map selection_of f.used) tell_selections n
            (in_flat_mapped selection_of (record { element = n.element; how = how.Selected n.named }) n f.used i (inl refl))) (ap not q)))

    use_stands : (e : Element) (k : How) → IsIn (record { element = e; how = k }) f.used → UseIsLawful firings f (record { element = e; how = k }) → StandsOn grounds after (record { element = e; how = k })
    use_stands e how.Upper i l = ground_in f e here i
    use_stands e how.Architecture i l =
        kept (architecture_step e) (h.architecture_there (architecture_step e) (in_mapped architecture_step e (by_tag (flat_map architecture_of uses))
        (in_tags (flat_map architecture_of uses) tell_architecture e
        (in_flat_mapped architecture_of (record { element = e; how = how.Architecture }) e uses (in_uses f (record { element = e; how = how.Architecture }) here i) (inl refl)))))
    use_stands e (how.Item tag) i l =
        kept (item_step e tag) (h.items_there (item_step e tag) (in_mapped as_item_step (record { element = e; named = tag }) (namings_in_order (flat_map item_of uses))
        (in_namings (flat_map item_of uses) tell_items (record { element = e; named = tag })
        (in_flat_mapped item_of (record { element = e; how = how.Item tag }) (record { element = e; named = tag }) uses (in_uses f (record { element = e; how = how.Item tag }) here i) (inl refl)))))
    use_stands e (how.Selected tag) i l = selection_there (record { element = e; named = tag }) i
    use_stands e (how.Made n) i l = made_before_more before after n e kept (earlier_fired (record { element = e; how = how.Made n }) n e i (inl refl) l)

    ready_then : Ready (front ++ f ∷ []) (seen ++ new) (after ++ fire_step f ∷ [])
    ready_then = record {
      fired = λ g i. fired g (in_append g front (f ∷ []) i);
      selected = λ n i. in_left (as_select_step n) after (fire_step f ∷ []) (selected n (in_append n seen new i));
      architecture_there = λ t i. in_left t after (fire_step f ∷ []) (kept t (h.architecture_there t i));
      items_there = λ t i. in_left t after (fire_step f ∷ []) (kept t (h.items_there t i));
      of_uses = λ n i. of_uses n (in_append n seen new i);
    }
      where
        fired : (g : FiringOf) → IsIn g front ⊎ IsIn g (f ∷ []) → IsIn (fire_step g) (after ++ fire_step f ∷ [])
        fired g (inl i) = in_left (fire_step g) after (fire_step f ∷ []) (kept (fire_step g) (h.fired g i))
        fired g (inr (inl q)) = in_right (fire_step g) after (fire_step f ∷ []) (inl (ap fire_step q))
        fired g (inr (inr j)) = absurd j

        selected : (n : TagNaming) → IsIn n seen ⊎ IsIn n new → IsIn (as_select_step n) after
        selected n (inl i) = kept (as_select_step n) (h.selected n i)
        selected n (inr i) = in_right (as_select_step n) before (map as_select_step new) (in_mapped as_select_step n new i)

        of_uses : (n : TagNaming) → IsIn n seen ⊎ IsIn n new → (u : Used) × IsIn u uses × (u.element ≡ n.element)
        of_uses n (inl i) = h.of_uses n i
        of_uses n (inr i) =
            let u : Used = record { element = n.element; how = how.Selected n.named } in (u, in_uses f u here (new_selected n i), refl)

  firings_stand : (front fs : List FiringOf) (seen : List TagNaming) (before : List StepOf) → explained ≡ front ++ fs → Ready front seen before → StepsStand grounds before (firing_steps seen fs)
  firings_stand front [] seen before parts h = tt
  firings_stand front (f ∷ fs) seen before parts h =
      let chosen = new front f fs seen before parts h in
      stand_then grounds before (map as_select_step chosen) (fire_step f ∷ firing_steps (seen ++ chosen) fs)
      (selects_stand grounds chosen before (named_made front f fs seen before parts h)) (
        (λ u i. use_stands front f fs seen before parts h u.element u.how i (lawful.uses f (mine front f fs seen before parts h) u i)),
        firings_stand (front ++ f ∷ []) fs (seen ++ chosen) ((before ++ map as_select_step chosen) ++ fire_step f ∷ []) (parts ∙ sym (append_assoc front (f ∷ []) fs)) (ready_then front f fs seen before parts h),
      )

  pub steps_stand : StepsStand grounds [] (architecture ++ (items ++ firing_steps [] explained))
  steps_stand =
      stand_then grounds [] architecture (items ++ firing_steps [] explained) (architecture_stands grounds (by_tag (flat_map architecture_of uses)) [])
      (stand_then grounds architecture items (firing_steps [] explained) (items_stand grounds (namings_in_order (flat_map item_of uses)) architecture item_grounded)
      (firings_stand [] explained [] (architecture ++ items) refl
      (record {
        fired = λ g i. absurd i;
        selected = λ n i. absurd i;
        architecture_there = λ t i. in_left t architecture items i;
        items_there = λ t i. in_right t architecture items i;
        of_uses = λ n i. absurd i;
      })))

  -- ---- the firings of the steps

  no_firing : (ns : List TagNaming) (g : FiringOf) (t : StepOf) → IsIn t (map as_select_step ns) → IsIn g (firing_in t) → ⊥
  no_firing ns g t i j = let m = in_map as_select_step t ns i in subst (λ x. IsIn g (firing_in x)) (sym m.2) j

  fires_from : (seen : List TagNaming) (fs : List FiringOf) (g : FiringOf) (t : StepOf) → IsIn t (firing_steps seen fs) → IsIn g (firing_in t) → IsIn g fs
  fires_from seen [] g t i j = absurd i
  fires_from seen (f ∷ fs) g t i j =
      let chosen = filter (λ n. not (is_seen seen n)) (namings_in_order (flat_map selection_of f.used)) in
      elim (in_append t (map as_select_step chosen) (fire_step f ∷ firing_steps (seen ++ chosen) fs) i) [
        | inl k ↦ absurd (no_firing chosen g t k j)
        | inr k ↦ elim k [ inl q ↦ one (subst (λ x. IsIn g (firing_in x)) (sym q) j) | inr l ↦ inr (fires_from (seen ++ chosen) fs g t l j) ]
      ]
    where
      one : IsIn g (f ∷ []) → IsIn g (f ∷ fs)
      one (inl q) = inl q
      one (inr l) = absurd l

  fires_in : (seen : List TagNaming) (fs : List FiringOf) (g : FiringOf) → IsIn g fs → IsIn (fire_step g) (firing_steps seen fs)
  fires_in seen [] g i = absurd i
  fires_in seen (f ∷ fs) g i =
      let chosen = filter (λ n. not (is_seen seen n)) (namings_in_order (flat_map selection_of f.used)) in
      in_right (fire_step g) (map as_select_step chosen) (fire_step f ∷ firing_steps (seen ++ chosen) fs)
      (elim i [ inl q ↦ inl (ap fire_step q) | inr j ↦ inr (fires_in (seen ++ chosen) fs g j) ])

  module _ (results : List Wish) (made : AreWishesOf firings roots results) where
    abbrev c : ChainOf
    c = chain_of firings roots results

    pub firing_explained : (g : FiringOf) → IsIn g (firings_of c) → IsIn g explained
    firing_explained g i =
        let found = in_flat_map firing_in g (architecture ++ (items ++ firing_steps [] explained)) i in
        elim (in_append found.0 architecture (items ++ firing_steps [] explained) found.1) [
          | inl j ↦ let m = in_map architecture_step found.0 (by_tag (flat_map architecture_of uses)) j in absurd (subst (λ x. IsIn g (firing_in x)) (sym m.2) found.2)
          | inr j ↦ elim (in_append found.0 items (firing_steps [] explained) j) [
            | inl k ↦ let m = in_map as_item_step found.0 (namings_in_order (flat_map item_of uses)) k in absurd (subst (λ x. IsIn g (firing_in x)) (sym m.2) found.2)
            | inr k ↦ fires_from [] explained g found.0 k found.2
          ]
        ]

    explained_fires : (g : FiringOf) → IsIn g explained → IsIn g (firings_of c)
    explained_fires g i =
        in_flat_mapped firing_in (fire_step g) g (architecture ++ (items ++ firing_steps [] explained))
        (in_right (fire_step g) architecture (items ++ firing_steps [] explained) (in_right (fire_step g) items (firing_steps [] explained) (fires_in [] explained g i))) (inl refl)

    pub ground_used : (e : Element) → IsIn e grounds → IsIn e (used_elements firings)
    ground_used e i =
        let a = in_flat_map upper_of e uses (from_tags (flat_map upper_of uses) e i) in subst (λ x. IsIn x (used_elements firings)) (from_upper e a.0 a.2) (was_used a.0 a.1)

    pub explanation_is_lawful : IsLawful words c w
    explanation_is_lawful = record {
      firings = λ g i. lawful.each g (from_explained g (firing_explained g i)).0;
      steps = steps_stand;
      results = λ x i. let f = made x i in (f.0, explained_fires f.0 (is_explained f.0 f.1 (good.0.has_roots f.0.number f.2)), f.3);
      tags = λ e f i q. lawful.now e f (ground_used e i) q;
      ids = λ e i. lawful.ids e (ground_used e i);
    }

pub explanations_are_lawful : ExplanationsAreLawful
explanations_are_lawful words firings w lawful roots known results made = explanation_is_lawful words firings w lawful roots known results made
