-- Explanations as they are told, and what is made of them.
use Rattle.std.proofs.Common.{◌≡◌, sym, ◌∙◌, ap, subst, ℕ, Bool, List, [], ◌∷◌, Option, Some, None, Result, Ok, Err, IfOk}
use Rattle.soar_sym.specs.Words.{Texts}
use Rattle.soar_sym.specs.declared.symbol.Sym.{Sym}
use Rattle.soar_rule.specs.Productions.{production_seen}
use Rattle.soar_rule.specs.Symbols.{AreKnown}
use Rattle.defs_soar.specs.History.{FiringOf}
use Rattle.explained_firings.specs.Explaining.{TellsExplanation}
use Rattle.explained_firings.specs.declared.explained.Explained.{Explained}
use Rattle.firing_records.specs.Recorded.{Standing}
use Rattle.learning_laws.specs.Lawful.{Grown}
use Rattle.learning_laws.proofs.NamingLaws.{known_later}
use Rattle.soar_settle.specs.declared.stop.Stop.{Stop}
use Rattle.wave_learning.specs.Course.{Course, ExplainedBy, NewRuleOf, Progress, explained_by, moment, taught, with_name}
use Rattle.wave_learning.specs.Found.{first_firing}
use Rattle.wave_learning.specs.Lawful.{IsLawfulCourse, IsMatched}
use Rattle.wave_learning.specs.Seen.{Leaves, TellsExplained, explained_seen, rule_made}
use Rattle.wave_learning.specs.declared.rules.NewRule.{NewRule}
use Rattle.wave_learning.proofs.CourseLemmas.{explained_there, nothing_taught, something_taught}

pub if_ok : {T E : Type 0} (r : Result T E) (P Q : T → Type 0) → ((x : T) → P x → Q x) → IfOk r P → IfOk r Q
if_ok (Ok x) P Q f p = f x p
if_ok (Err e) P Q f p = tt

module _ (s : Standing) (past : List FiringOf) (on local_negations : Bool) (c : Course) (h : IsLawfulCourse s past on local_negations c) (n : ℕ) (f : FiringOf) (q : first_firing n c.entries ≡ Some f) where
  pub told : (o : Option Explained) → TellsExplanation c.words s past f o → TellsExplained s past on local_negations n c o
  told None t = nothing_taught s past on local_negations c n f q t
  told (Some e) t =
      let same : explained_seen e ≡ explained_by (moment s past on local_negations) c.words f =
      (λ i. record { number = t.1.number_is i; depth = t.1.depth_is i; flags = t.1.flags_are i; chain = t.1.chain_is i }) in (
        something_taught s past on local_negations c n f q t.0 ∙ ap (λ (y : ExplainedBy). taught (moment s past on local_negations) y c) (sym same),
        explained_there s past on local_negations c h n f (explained_seen e) q same,
      )

-- ---- answers

pub leaves_same : (p o : Progress) (after : Course) (r : Result (Unit {0}) Stop) → p ≡ o → Leaves o after r → Leaves p after r
leaves_same p o after r q l = subst (λ (x : Progress). Leaves x after r) (sym q) l

-- ---- rules

pub rule_matched : (s : Standing) (r : NewRule) (it : NewRuleOf) → rule_made r ≡ it → IsMatched s it.production it.elements it.binds → IsMatched s (production_seen r.production) r.elements r.binds
rule_matched s r it q h = subst (λ (x : NewRuleOf). IsMatched s x.production x.elements x.binds) (sym q) h

-- the name does not matter
pub named_matched : (s : Standing) (r it : NewRule) (name : Sym) → rule_made it ≡ with_name (rule_made r) name → IsMatched s (production_seen r.production) r.elements r.binds → IsMatched s (production_seen it.production) it.elements it.binds
named_matched s r it name q h = rule_matched s it (with_name (rule_made r) name) q (record { bound = h.bound; there = h.there })

-- ---- words

pub known_grown : (a b : Texts) (symbols : List Sym) → Grown a b → AreKnown a symbols → AreKnown b symbols
known_grown a b [] g h = tt
known_grown a b (s ∷ symbols) g h = (known_later a b s g h.0, known_grown a b symbols g h.1)
