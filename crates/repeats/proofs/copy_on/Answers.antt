-- `repeats::copy_on` meets its contract. The invariant: the entries from q up to k are f's, where f comes again after q. Assumes nothing.
use Rattle.std.proofs.Common.{◌≡◌, ℕ, ◌+◌, ◌-◌, ◌≤◌, ◌<◌, List, length, get_or, sym, ap, refl, ◌∙◌, arith}
use lib.ListN.{length-set}
use native.Mathlib.Decide.{dec_le}
use Rattle.table.specs.Table.{Stored}
use Rattle.table.proofs.Stores.{stored-none, stored_more}
use Rattle.repeats.proofs.copy_on.Goals as goal

-- an entry before k, from q on or before q
before : (f : ℕ → ℕ) (q k : ℕ) (t t' : List ℕ) → ((i : ℕ) → i < q → i < length t → get_or t i 0 ≡ f i) → Stored f q k t t'
    → (i : ℕ) → i < k → i < length t → get_or t' i 0 ≡ f i
before f q k t t' h s i l n = either (dec_le q i)
  where
    either : Dec (q ≤ i) → get_or t' i 0 ≡ f i
    either (yes p) = s.new i p l
    either (no p) = s.kept i (omega arith) ∙ h i (omega arith) n

pub loop-k-init : goal.loop-k-init
loop-k-init c = (λ f h e. stored-none f c.args.q c.args.t.now, refl)

pub loop-k-preserved : goal.loop-k-preserved
loop-k-preserved c =
    let q = c.args.q in
    let l = c.loop-k in
    let n : q ≤ l.k = omega arith in
    let m : l.k < length l.t = omega arith in
    let o : l.k - q + q ≡ l.k = omega arith in (
      λ f h e.
          let s = l.invariant.0 f h e in
          stored_more f q l.k _ c.args.t.now l.t n m
          (before f q l.k c.args.t.now l.t h s (l.k - q) (omega (arith, c.requires)) (omega arith) ∙ sym (e (l.k - q)) ∙ ap f o) s,
      simp length-set l.invariant.1,
    )

pub returns : goal.returns
returns c =
    let l = c.loop-k in
    (λ f h e i n. before f c.args.q l.k c.args.t.now l.t h (l.invariant.0 f h e) i (omega arith) (omega arith), l.invariant.1)
