-- What each return of `head_at` and `body_at` says of the input.
use Rattle.std.specs.Prelude.{◌≡◌, Bool, true, false, ℕ, ◌+◌, ◌-◌, ◌<◌, ◌≤◌, List, [], length, get_or, take, drop, Some, None}
use Rattle.std.specs.Slice.{IsItemAt}
use Rattle.std.proofs.Common.{Bor, arith, sym, ap, ◌∙◌, le-leb}
use Rattle.std.proofs.lemmas.Bool.{lt-leb}
use native.Mathlib.Nat.{add-sub_cancel_left}
use Rattle.events.specs.Refusal.{first_of}
use Rattle.schedule.specs.declared.Head.{Head}
use Rattle.schedule.specs.declared.Head.TheVariants.{Record, Unknown, Short, End}
use Rattle.schedule.specs.Record.{length_of, known, after, verdict_of, head_of, body_of, refusal_of, head_checks}
use Rattle.schedule.specs.Laws.{stands_record, stands_unknown, refusal_first}

-- head_at
module _ (started : Bool) (s : List ℕ) (at : ℕ) where
  abbrev pub Told : Head → Type 0
  Told r = (r ≡ head_of started s at) × (refusal_of r ≡ first_of (head_checks started s at))

  told : (r : Head) → r ≡ head_of started s at → Told r
  told r e = (e, ap refusal_of e ∙ refusal_first started s at)

  pub head_end : IsItemAt s at None → Told End
  unfolding head_of
  head_end g = let h : length s ≤ at = g.3 in told End (rw (le-leb (length s) at h))

  -- x is what stands at the place
  module _ (x : Bor ℕ) (g : IsItemAt s at (Some x)) where
    h : at < length s
    h = g.3.0

    m : x.now ≡ get_or s at 0
    m = g.4 (omega arith) 0

    pub head_unknown : false ≡ known started x.now → Told Unknown
    head_unknown k = told Unknown (sym (stands_unknown started s at h (rw m at (sym k))))

    module _ (n : ℕ) (k : true ≡ known started x.now) (e : n ≡ length_of x.now) where
      pub head_short : length s - (at + 1) < n → Told Short
      unfolding head_of verdict_of
      head_short l =
          let f : length s < at + 1 + length_of x.now = omega arith in
          told Short (rw (lt-leb (length s) at h, ← m, ← k, lt-leb (after at x.now) (length s) f))

      pub head_record : n ≤ length s - (at + 1) → Told (Record x.now n)
      head_record l = told (Record x.now n) (sym (stands_record started s at x.now n (record { is = m; right = sym k; size = e; fits = omega arith })))

-- body_at
module _ (s : List ℕ) (at kind n : ℕ) (m : n ≡ length_of kind) where
  pub body_cut : length s < at + 1 + n → [] ≡ body_of s at kind
  unfolding body_of
  body_cut h = rw (lt-leb (after at kind) (length s) (rw (← m) h))

  pub body_whole : at < length s → n ≤ length s - (at + 1) → take (at + 1 + n - (at + 1)) (drop (at + 1) s) ≡ body_of s at kind
  unfolding body_of
  body_whole h l =
      let f : at + 1 + n ≤ length s = omega arith in
      rw (add-sub_cancel_left (at + 1) n, le-leb (after at kind) (length s) (rw (← m) f), m)
