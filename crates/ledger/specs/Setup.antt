-- The setup: a good one is the byte 00, then n, k and w, a byte each, all in their ranges, whatever follows; and without a good one the output is the setup's refusal alone, with no last line.
use Rattle.std.specs.Prelude.{◌≡◌, refl, Bool, true, false, List, [], ◌∷◌, ◌++◌, ℕ, length, drop}
use Rattle.std.proofs.Common.{sym, ◌∙◌, ap, append-nil, arith, eqb-true, le-leb}
use Rattle.memory.specs.declared.Sizes.{Sizes}
use Rattle.memory.specs.Fresh.{zeros, good_sizes, fresh_of}
use Rattle.events.specs.declared.Answer.TheVariants.{Refused}
use Rattle.schedule.specs.declared.Head.{Head}
use Rattle.schedule.specs.declared.Head.TheVariants.{Record, Unknown, Short, End}
use Rattle.schedule.specs.Record.{length_of, known, after, head_of, body_of}
use Rattle.schedule.specs.Content.{setup_of}
use Rattle.schedule.specs.Laws.{record_says, stands_record}
use Rattle.answers.specs.Line.{line_of}
use Rattle.play.specs.declared.Stage.TheVariants.{First, Over}
use Rattle.play.specs.Tick.{Turn, turn, setup_turn, tick_of}
use Rattle.play.specs.Split.{turn_played}
use Rattle.ledger.specs.OverBytes.{GoodSetup, setup_refusal, NoSetup}
use Rattle.ledger.specs.Out.{onward, out_record, out_over, out_unknown, out_short, out_end}

-- the body of a 00 that is all there
setup_body : (a n k w : ℕ) (rest : List ℕ) → body_of (a ∷ n ∷ k ∷ w ∷ rest) 0 0x00 ≡ n ∷ k ∷ w ∷ []
unfolding body_of length_of
setup_body a n k w rest = rw (le-leb (after 0 0x00) (length (a ∷ n ∷ k ∷ w ∷ rest)) (omega arith))

pub setup_bytes : (n k w : ℕ) (rest : List ℕ) → good_sizes n k w ≡ true → GoodSetup (0x00 ∷ n ∷ k ∷ w ∷ rest) n k w
unfolding length_of known
setup_bytes n k w rest e = record {
  first = stands_record false (0x00 ∷ n ∷ k ∷ w ∷ rest) 0 0x00 3 (record { is = refl; right = refl; size = refl; fits = omega arith });
  sizes = ap setup_of (setup_body 0x00 n k w rest);
  ranges = e;
}

pub bytes_setup : (x : List ℕ) (n k w : ℕ) → GoodSetup x n k w → (rest : List ℕ) × (x ≡ 0x00 ∷ n ∷ k ∷ w ∷ rest)
bytes_setup [] n k w g = let h = (record_says false [] 0 0x00 3 g.first).fits in absurd (omega arith)
bytes_setup (a ∷ []) n k w g = let h = (record_says false (a ∷ []) 0 0x00 3 g.first).fits in absurd (omega arith)
bytes_setup (a ∷ b ∷ []) n k w g = let h = (record_says false (a ∷ b ∷ []) 0 0x00 3 g.first).fits in absurd (omega arith)
bytes_setup (a ∷ b ∷ c ∷ []) n k w g = let h = (record_says false (a ∷ b ∷ c ∷ []) 0 0x00 3 g.first).fits in absurd (omega arith)
bytes_setup (a ∷ b ∷ c ∷ d ∷ rest) n k w g =
    let i : 0x00 ≡ a = (record_says false (a ∷ b ∷ c ∷ d ∷ rest) 0 0x00 3 g.first).is in
    let e : setup_of (b ∷ c ∷ d ∷ []) ≡ record { n = n; k = k; w = w } = ap setup_of (sym (setup_body a b c d rest)) ∙ g.sizes in
    let p : b ≡ n = ap (λ (s : Sizes). s.n) e in
    let q : c ≡ k = ap (λ (s : Sizes). s.k) e in
    let r : d ≡ w = ap (λ (s : Sizes). s.w) e in
    (rest, cc)

-- sizes out of range
refused-turn : (s : Sizes) → good_sizes s.n s.k s.w ≡ false → setup_turn zeros s ≡ turn zeros (Over false) (line_of 0 (Refused 1))
unfolding fresh_of
refused-turn s e = rw e

-- a first record that is whole is a 00
first_kind : (x : List ℕ) (kind n : ℕ) → head_of false x 0 ≡ Record kind n → (kind ≡ 0x00) × (n ≡ 3)
unfolding known length_of
first_kind x kind n e =
    let h = record_says false x 0 kind n e in
    let z : kind ≡ 0x00 = eqb-true kind 0x00 h.right in
    (z, h.size ∙ ap length_of z)

pub no_setup : NoSetup
no_setup x none = go (head_of false x 0) refl
  where
    bad : (n k w : ℕ) (t : Bool) → good_sizes n k w ≡ t → head_of false x 0 ≡ Record 0x00 3 → setup_of (body_of x 0 0x00) ≡ record { n = n; k = k; w = w } → good_sizes n k w ≡ false
    bad n k w true p e q = absurd (none n k w (record { first = e; sizes = q; ranges = p }))
    bad n k w false p e q = p

    go : (h : Head) → head_of false x 0 ≡ h → tick_of x ≡ line_of 0 (Refused (setup_refusal h))
    go (Record kind n) e =
        let z = first_kind x kind n e in
        let f : head_of false x 0 ≡ Record 0x00 3 = rw (z.0, z.1) at e in
        let s = setup_of (body_of x 0 0x00) in
        out_record zeros First x 0x00 3 f
        ∙ ap (λ (t : Turn). onward x (turn_played t 4)) (refused-turn s (bad s.n s.k s.w (good_sizes s.n s.k s.w) refl f refl))
        ∙ ap (λ (y : List ℕ). line_of 0 (Refused 1) ++ y) (out_over zeros First (drop 4 x) false)
        ∙ append-nil (line_of 0 (Refused 1))
    go Unknown e = out_unknown zeros First x e ∙ append-nil (line_of 0 (Refused 3))
    go Short e = out_short zeros First x e
    go End e = out_end zeros First x e
