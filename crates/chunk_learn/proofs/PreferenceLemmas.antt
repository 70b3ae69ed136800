-- Preferences are the same where their kinds and their referents are.
use Rattle.std.proofs.Common.{◌≡◌, refl, ◌&&◌, ◌==◌}
use Rattle.soar_rule.specs.Equality.{preference_eq}
use Rattle.soar_rule.specs.Productions.{ValueOf, PreferenceOf, accepts, rejects, requires_it, prohibits, is_best, is_worst, is_indifferent, is_better_than, is_worse_than, is_indifferent_to}
use Rattle.soar_rule.specs.Variables.{referent_value}
use Rattle.chunk_learn.specs.Seen.{referent_eq, preference_place}

abbrev IsByPlace : PreferenceOf → PreferenceOf → Type 0
IsByPlace p q = preference_eq p q ≡ ((preference_place p == preference_place q) && referent_eq (referent_value p) (referent_value q))

by_accepts : (q : PreferenceOf) → IsByPlace accepts q
by_accepts accepts = refl
by_accepts rejects = refl
by_accepts requires_it = refl
by_accepts prohibits = refl
by_accepts is_best = refl
by_accepts is_worst = refl
by_accepts is_indifferent = refl
by_accepts (is_better_than v) = refl
by_accepts (is_worse_than v) = refl
by_accepts (is_indifferent_to v) = refl

by_rejects : (q : PreferenceOf) → IsByPlace rejects q
by_rejects accepts = refl
by_rejects rejects = refl
by_rejects requires_it = refl
by_rejects prohibits = refl
by_rejects is_best = refl
by_rejects is_worst = refl
by_rejects is_indifferent = refl
by_rejects (is_better_than v) = refl
by_rejects (is_worse_than v) = refl
by_rejects (is_indifferent_to v) = refl

by_requires_it : (q : PreferenceOf) → IsByPlace requires_it q
by_requires_it accepts = refl
by_requires_it rejects = refl
by_requires_it requires_it = refl
by_requires_it prohibits = refl
by_requires_it is_best = refl
by_requires_it is_worst = refl
by_requires_it is_indifferent = refl
by_requires_it (is_better_than v) = refl
by_requires_it (is_worse_than v) = refl
by_requires_it (is_indifferent_to v) = refl

by_prohibits : (q : PreferenceOf) → IsByPlace prohibits q
by_prohibits accepts = refl
by_prohibits rejects = refl
by_prohibits requires_it = refl
by_prohibits prohibits = refl
by_prohibits is_best = refl
by_prohibits is_worst = refl
by_prohibits is_indifferent = refl
by_prohibits (is_better_than v) = refl
by_prohibits (is_worse_than v) = refl
by_prohibits (is_indifferent_to v) = refl

by_is_best : (q : PreferenceOf) → IsByPlace is_best q
by_is_best accepts = refl
by_is_best rejects = refl
by_is_best requires_it = refl
by_is_best prohibits = refl
by_is_best is_best = refl
by_is_best is_worst = refl
by_is_best is_indifferent = refl
by_is_best (is_better_than v) = refl
by_is_best (is_worse_than v) = refl
by_is_best (is_indifferent_to v) = refl

by_is_worst : (q : PreferenceOf) → IsByPlace is_worst q
by_is_worst accepts = refl
by_is_worst rejects = refl
by_is_worst requires_it = refl
by_is_worst prohibits = refl
by_is_worst is_best = refl
by_is_worst is_worst = refl
by_is_worst is_indifferent = refl
by_is_worst (is_better_than v) = refl
by_is_worst (is_worse_than v) = refl
by_is_worst (is_indifferent_to v) = refl

by_is_indifferent : (q : PreferenceOf) → IsByPlace is_indifferent q
by_is_indifferent accepts = refl
by_is_indifferent rejects = refl
by_is_indifferent requires_it = refl
by_is_indifferent prohibits = refl
by_is_indifferent is_best = refl
by_is_indifferent is_worst = refl
by_is_indifferent is_indifferent = refl
by_is_indifferent (is_better_than v) = refl
by_is_indifferent (is_worse_than v) = refl
by_is_indifferent (is_indifferent_to v) = refl

by_is_better_than : (u : ValueOf) (q : PreferenceOf) → IsByPlace (is_better_than u) q
by_is_better_than u accepts = refl
by_is_better_than u rejects = refl
by_is_better_than u requires_it = refl
by_is_better_than u prohibits = refl
by_is_better_than u is_best = refl
by_is_better_than u is_worst = refl
by_is_better_than u is_indifferent = refl
by_is_better_than u (is_better_than v) = refl
by_is_better_than u (is_worse_than v) = refl
by_is_better_than u (is_indifferent_to v) = refl

by_is_worse_than : (u : ValueOf) (q : PreferenceOf) → IsByPlace (is_worse_than u) q
by_is_worse_than u accepts = refl
by_is_worse_than u rejects = refl
by_is_worse_than u requires_it = refl
by_is_worse_than u prohibits = refl
by_is_worse_than u is_best = refl
by_is_worse_than u is_worst = refl
by_is_worse_than u is_indifferent = refl
by_is_worse_than u (is_better_than v) = refl
by_is_worse_than u (is_worse_than v) = refl
by_is_worse_than u (is_indifferent_to v) = refl

by_is_indifferent_to : (u : ValueOf) (q : PreferenceOf) → IsByPlace (is_indifferent_to u) q
by_is_indifferent_to u accepts = refl
by_is_indifferent_to u rejects = refl
by_is_indifferent_to u requires_it = refl
by_is_indifferent_to u prohibits = refl
by_is_indifferent_to u is_best = refl
by_is_indifferent_to u is_worst = refl
by_is_indifferent_to u is_indifferent = refl
by_is_indifferent_to u (is_better_than v) = refl
by_is_indifferent_to u (is_worse_than v) = refl
by_is_indifferent_to u (is_indifferent_to v) = refl

pub by_place : (p q : PreferenceOf) → preference_eq p q ≡ ((preference_place p == preference_place q) && referent_eq (referent_value p) (referent_value q))
by_place accepts q = by_accepts q
by_place rejects q = by_rejects q
by_place requires_it q = by_requires_it q
by_place prohibits q = by_prohibits q
by_place is_best q = by_is_best q
by_place is_worst q = by_is_worst q
by_place is_indifferent q = by_is_indifferent q
by_place (is_better_than u) q = by_is_better_than u q
by_place (is_worse_than u) q = by_is_worse_than u q
by_place (is_indifferent_to u) q = by_is_indifferent_to u q
