-- What this crate shows of the area, and nothing else: each theorem with its statement, the proof a citation or a short assembly. Assumes nothing.
use mathlib.Core.Path.{◌≡◌, sym, ap, ◌∙◌, subst}
use mathlib.Core.Bool.{not}
use mathlib.Core.List.{List}
use mathlib.Core.Logic.{◌↔◌}
use Prim.Native.Nat.{ℕ, ◌<◌}
use native.Mathlib.Omega.{arith}
use lib.Dec.{T, eqb}
use lib.ListN.{length, get_or}
use Rattle.words.specs.Words.{Bytes}
use Rattle.meaning.specs.Rows.{Row, most_opens}
use Rattle.meaning.proofs.Singles.{singles, length-singles, singles-good}
use Rattle.area.specs.Layout.{most_rows, good_bytes}
use Rattle.area.specs.State.{State, GoodRow, GoodState, area_of, state_of}
use Rattle.area.proofs.RowLaws.{none}
use Rattle.area.proofs.Full.{repeated, length-repeated, repeated-row, repeated-good}
use Rattle.area.proofs.Bytes as bytes

-- bytes are a good area exactly when they are the bytes of a good state
pub good-bytes : (l : List ℕ) → Bytes l → T (good_bytes l) ↔ ((s : State) × GoodState s × (area_of s ≡ l))
good-bytes l b = (
  (λ t. (state_of l, bytes.good-state l t, bytes.good-area l t b)),
  λ p. subst (λ (k : List ℕ). T (good_bytes k)) p.2 (bytes.area-good p.0 p.1),
)

-- and that state is one and the same
pub one_state : (s t : State) → GoodState s → GoodState t → area_of s ≡ area_of t → s ≡ t
one_state s t g h e = sym (bytes.area-state s g) ∙ ap state_of e ∙ bytes.area-state t h

-- namely the one that the bytes hold
pub state-held : (s : State) → GoodState s → state_of (area_of s) ≡ s
state-held = bytes.area-state

-- a full good area exists: 128 rows of 15 open sets
pub full-area : (s : State) × GoodState s × (length s.rows ≡ 128) × ((i : ℕ) → i < 128 → length (get_or s.rows i none).row.opens ≡ 15)
full-area =
    let w : Row = record { denied = 0; opens = singles 0 most_opens } in
    let len : length (singles 0 most_opens) ≡ most_opens = length-singles 0 most_opens in
    let g : GoodRow 16 w = record { good = singles-good 16 most_opens (omega arith); says = subst (λ (n : ℕ). T (not (eqb n 0))) (sym len) tt; few = omega arith } in (
      record { roles = 16; policy = 0; rows = repeated w 1 most_rows },
      record {
        some-roles = omega arith;
        most-roles = omega arith;
        most-rows = omega (arith, length-repeated w 1 most_rows);
        policy-small = omega arith;
        good-rows = repeated-good 16 w g 0 most_rows (omega arith);
      },
      length-repeated w 1 most_rows,
      λ i h. ap (λ (v : Row). length v.opens) (repeated-row w 1 most_rows i h) ∙ len,
    )
