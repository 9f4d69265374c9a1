-- What document 01's ranges for n, k and w say, one by one; and what a number has that the tables' tests on them let pass.
use Rattle.std.specs.Prelude.{◌≡◌, true, false, ◌&&◌, ℕ, ◌≤◌, ◌<◌, ltb, leb}
use Rattle.std.proofs.Common.{subst, ltb-true, leb-true, leb-false}
use Rattle.memory.specs.declared.Sizes.{Sizes}
use Rattle.memory.specs.Block.{Block}
use Rattle.memory.specs.Fresh.{within, good_sizes, sizes_in}
use Rattle.events.specs.First.{and_first, and_second}

pub record Ranges (n k w : ℕ) : Type 0 where
  pub words : n ≤ 64
  pub descriptors : k ≤ 16
  pub workers : w ≤ 8
  pub some : 0 < k

pub ranges : (n k w : ℕ) → good_sizes n k w ≡ true → Ranges n k w
ranges n k w e =
    let a = and_first (within n 64) (within k 16 && within w 8) e in
    let r = and_second (within n 64) (within k 16 && within w 8) e in
    let b = and_first (within k 16) (within w 8) r in
    let c = and_second (within k 16) (within w 8) r in
    record {
      words = leb-true n 64 (and_second (ltb 0 n) (leb n 64) a);
      descriptors = leb-true k 16 (and_second (ltb 0 k) (leb k 16) b);
      workers = leb-true w 8 (and_second (ltb 0 w) (leb w 8) c);
      some = ltb-true 0 k (and_first (ltb 0 k) (leb k 16) b);
    }

-- refusals 10, 17 and 4
module _ (n k w : ℕ) (m : Block) (sizes : sizes_in m ≡ record { n = n; k = k; w = w }) where
  pub below_n : (a : ℕ) → leb (sizes_in m).n a ≡ false → a < n
  below_n a e = subst (λ (s : Sizes). a < s.n) sizes (leb-false (sizes_in m).n a e)

  pub below_k : (d : ℕ) → leb (sizes_in m).k d ≡ false → d < k
  below_k d e = subst (λ (s : Sizes). d < s.k) sizes (leb-false (sizes_in m).k d e)

  pub below_w : (v : ℕ) → leb (sizes_in m).w v ≡ false → v < w
  below_w v e = subst (λ (s : Sizes). v < s.w) sizes (leb-false (sizes_in m).w v e)
