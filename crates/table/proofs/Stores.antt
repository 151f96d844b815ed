-- Loops that fill, store by store and part by part.
-- Assumes nothing.
use mathlib.Core.Path.{◌≡◌, refl, ◌∙◌}
use mathlib.Core.List.{List}
use Prim.Native.Nat.{ℕ, ◌+◌, ◌≤◌, ◌<◌}
use native.Mathlib.Decide.{dec_le}
use native.Mathlib.Omega.{arith}
use lib.ListN.{length, get_or, set}
use lib.Seq.{get_or-set_same, get_or-set_other}
use Rattle.table.specs.Table.{Stored}

module _ (f : ℕ → ℕ) where
  pub stored-none : (a : ℕ) (t : List ℕ) → Stored f a a t t
  stored-none a t = record { kept = λ k l. refl; new = λ k h l. absurd (omega arith) }

  -- one more
  pub stored_more : (a b v : ℕ) (t t' : List ℕ) → a ≤ b → b < length t' → v ≡ f b → Stored f a b t t' → Stored f a (b + 1) t (set t' b v)
  stored_more a b v t t' h l e s = record {
    kept = λ k m. get_or-set_other t' b k v 0 (λ n. omega arith) ∙ s.kept k m;
    new = λ k m n. either k m n (dec_le b k);
  }
    where
      either : (k : ℕ) → a ≤ k → k < b + 1 → Dec (b ≤ k) → get_or (set t' b v) k 0 ≡ f k
      either k m n (yes p) =
          let q : k ≡ b = omega arith in
          rw q (get_or-set_same t' b v 0 l ∙ e)
      either k m n (no p) = get_or-set_other t' b k v 0 (λ q. omega arith) ∙ s.new k m (omega arith)

  -- two parts in order
  pub stored-join : (a b c : ℕ) (t t' t'' : List ℕ) → a ≤ b → Stored f a b t t' → Stored f b c t' t'' → Stored f a c t t''
  stored-join a b c t t' t'' h r s = record {
    kept = λ k l. s.kept k (omega arith) ∙ r.kept k l;
    new = λ k l m. either k l m (dec_le b k);
  }
    where
      either : (k : ℕ) → a ≤ k → k < c → Dec (b ≤ k) → get_or t'' k 0 ≡ f k
      either k l m (yes p) = s.new k p m
      either k l m (no p) = s.kept k (omega arith) ∙ r.new k l (omega arith)

  -- the same numbers by another name
  pub stored_same : (g : ℕ → ℕ) (a b : ℕ) (t t' : List ℕ) → ((k : ℕ) → a ≤ k → k < b → f k ≡ g k) → Stored f a b t t' → Stored g a b t t'
  stored_same g a b t t' e s = record { kept = s.kept; new = λ k l m. s.new k l m ∙ e k l m }
