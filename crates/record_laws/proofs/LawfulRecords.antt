-- An agent is lawful with a part of its history that has the makers of its firings.
use Rattle.std.proofs.Common.{◌≡◌, refl, sym, ◌∙◌, subst, ℕ, true, ◌==◌, inl, List, [], ◌∷◌, map}
use Rattle.soar_wm.specs.declared.element.Element.{Element}
use Rattle.defs_soar.specs.declared.firing.How.{How}
use Rattle.defs_soar.specs.declared.firing.How.TheVariants as how
use Rattle.defs_soar.specs.declared.firing.Used.{Used}
use Rattle.defs_soar.specs.Agents.{Agent}
use Rattle.defs_soar.specs.Explanation.{maker_named}
use Rattle.defs_soar.specs.History.{FiringOf, RecordedFiring}
use Rattle.defs_soar.specs.Laws.{IsIn}
use Rattle.defs_soar.specs.Standing.{is_recorded, roots_of}
use Rattle.learning_laws.specs.LawfulAgents.{firings_of_agent, IsLawfulAgent}
use Rattle.learning_laws.specs.Record.{IsMadeEarlier, NamesMade, NamesUpper, used_elements, UseIsLawful}
use Rattle.learning_laws.proofs.Lists.{filter_within, in_flat_map, in_flat_mapped}
use Rattle.agent_laws.specs.Dependence.{firings_in}
use Rattle.agent_laws.specs.Records.{IsPartOf}
use Rattle.agent_laws.proofs.RecordLaws.{from_there}
use Rattle.agent_laws.proofs.RootLaws.{root_of_goal, root_of_row, selected_maker}
use Rattle.record_laws.specs.Closed.{HasMakers}
use Rattle.record_laws.specs.Reading.{LawfulByRecord}
use Rattle.record_laws.proofs.ClosedLaws.{recorded_firing, roots_are_recorded}

module _ (kept : List RecordedFiring) (a : Agent) (h : IsLawfulAgent a) (part : IsPartOf (firings_in kept) (firings_of_agent a) (roots_of a)) (closed : HasMakers (firings_in kept)) where
  abbrev ks : List FiringOf
  ks = firings_in kept

  abbrev fs : List FiringOf
  fs = firings_of_agent a

  within : (f : FiringOf) → IsIn f ks → IsIn f fs
  within f i = (filter_within (λ g. g.number == f.number) fs f (subst (IsIn f) (sym (from_there fs ks f part.from_history i)) (inl refl))).0

  -- a firing of the history is kept where its number is recorded
  is_kept : (g : FiringOf) (n : ℕ) → IsIn g fs → g.number ≡ n → is_recorded ks n ≡ true → IsIn g ks
  is_kept g n i q r =
      let x = recorded_firing ks n r in
      subst (λ (y : FiringOf). IsIn y ks) (sym (h.founded.history.numbers g x.0 i (within x.0 x.1) (q ∙ sym x.2))) x.1

  root_kept : (n : ℕ) → IsIn n (roots_of a) → is_recorded ks n ≡ true
  root_kept = roots_are_recorded ks fs (roots_of a) part

  used_kept : (e : Element) → IsIn e (used_elements ks) → IsIn e (used_elements fs)
  used_kept e i =
      let x = in_flat_map (λ (f : FiringOf). map (λ (u : Used). u.element) f.used) e ks i in
      in_flat_mapped (λ (f : FiringOf). map (λ (u : Used). u.element) f.used) x.0 e fs (within x.0 x.1) x.2

  use_kept : (f : FiringOf) → IsIn f ks → (u : Used) → IsIn u f.used → UseIsLawful ks f u
  use_kept f i u j = go u.how refl (h.founded.history.uses f (within f i) u j)
    where
      is_named : (n : ℕ) → u.how ≡ how.Made n → IsIn n (maker_named u)
      is_named n q =
          subst (λ (v : How). IsIn n (elim v [ how.Made m ↦ m ∷ [] | how.Upper ↦ [] | how.Architecture ↦ [] | how.Item tag ↦ [] | how.Selected tag ↦ [] ])) (sym q) (inl refl)

      go : (v : How) → u.how ≡ v
          → elim v as (λ _. Type 0) [ how.Upper ↦ Unit {0} | how.Architecture ↦ Unit {0} | how.Item tag ↦ NamesUpper f.used u.element tag | how.Selected tag ↦ NamesMade f.used u.element tag | how.Made number ↦ IsMadeEarlier fs f.number number u.element ]
          → elim v as (λ _. Type 0) [ how.Upper ↦ Unit {0} | how.Architecture ↦ Unit {0} | how.Item tag ↦ NamesUpper f.used u.element tag | how.Selected tag ↦ NamesMade f.used u.element tag | how.Made number ↦ IsMadeEarlier ks f.number number u.element ]
      go how.Upper q k = tt
      go how.Architecture q k = tt
      go (how.Item tag) q k = k
      go (how.Selected tag) q k = k
      go (how.Made n) q k = record {
        firing = k.firing;
        is_there = is_kept k.firing n k.is_there k.number_is (closed f i n (in_flat_mapped maker_named u n f.used j (is_named n q)));
        number_is = k.number_is;
        earlier = k.earlier;
        makes = k.makes;
      }

  pub lawful_with_part : IsLawfulAgent (record a { history = kept })
  lawful_with_part =
      let s = h.founded.symbols in
      let e = h.founded.elements in
      let t = h.founded.history in
      let u = h.held_up in
      record {
        founded = record {
          symbols = record { letters = s.letters; words = s.words; once = s.once; links = s.links; goals = s.goals; inputs = s.inputs; queued = s.queued; of_rules = s.of_rules; made = λ f i. s.made f (within f i) };
          elements = record { ever = e.ever; tags = e.tags; last = e.last; ids = e.ids; given = e.given; present = e.present; used = λ x i. e.used x (used_kept x i); items = e.items; selected = e.selected };
          history = record {
            each = λ f i. t.each f (within f i);
            stand = λ f i. t.stand f (within f i);
            numbers = λ f g i j. t.numbers f g (within f i) (within g j);
            last_is = λ f i. t.last_is f (within f i);
            uses = use_kept;
            listed = λ f i. t.listed f (within f i);
            known = λ f i. t.known f (within f i);
            new = λ f x i. t.new f x (within f i);
          };
          rows = λ row i.
              let x = h.founded.rows row i in
              (x.0, is_kept x.0 row.firing x.1 x.2 (root_kept row.firing (root_of_row a.holding.live a.holding.rows a.holding.goals row i)), x.2, x.3);
          accepted = h.founded.accepted;
          selections = λ g x i q.
              let made = h.founded.selections g x i q in
              record {
                firing = made.firing;
                is_there = is_kept made.firing x.maker made.is_there made.number_is (root_kept x.maker (root_of_goal a.holding.live a.holding.rows a.holding.goals g i x.maker (selected_maker g x q)));
                number_is = made.number_is;
                makes = made.makes;
              };
          stand = h.founded.stand;
        };
        held_up = record {
          held = λ x i made. u.held x i (record { below = made.below; others = made.others; unselected = made.unselected });
          marks = λ x i made. u.marks x i (record { below = made.below; others = made.others; unselected = made.unselected });
          flags = u.flags;
          candidates = u.candidates;
        };
      }

pub lawful_by_record : LawfulByRecord
lawful_by_record kept a h part closed = lawful_with_part kept a h part closed
