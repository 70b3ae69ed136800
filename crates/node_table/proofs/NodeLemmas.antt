-- Nodes as one of them changes.
use Rattle.std.proofs.Common.{Result, Ok, Err, IfOk, ◌≡◌, refl, ap, ◌∙◌, Bool, true, false, cond, ◌==◌, ℕ, Option, Some, None, if◌then◌else◌}
use Rattle.std.specs.Prelude.{option_and_then}
use Rattle.std.specs.Option.{option_map}
use Rattle.node_table.specs.declared.node.Node.{Node}
use Rattle.node_table.specs.Nodes.{key_at, key_of}

-- a change at one number that keeps its key
pub key_stays : (old new : ℕ → Option Node) (m : ℕ) (f : Node → Node) → ((k : ℕ) → new k ≡ (if k == m then option_map f (old k) else old k)) → ((s : Node) → (f s).key ≡ s.key) → (n : ℕ) → key_at new n ≡ key_at old n
key_stays old new m f changed same n = ap (option_and_then key_of) (changed n) ∙ by (n == m) (old n)
  where
    by : (b : Bool) (o : Option Node) → option_and_then key_of (cond b (option_map f o) o) ≡ option_and_then key_of o
    by true None = refl
    by true (Some s) = same s
    by false o = refl

-- what follows from what an answer has
pub weaker_ok : {T E : Type 0} {P Q : T → Type 0} → ((x : T) → P x → Q x) → (r : Result T E) → IfOk r P → IfOk r Q
weaker_ok f (Ok x) p = f x p
weaker_ok f (Err e) p = tt
