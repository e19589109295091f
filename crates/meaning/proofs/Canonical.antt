-- A good row is fixed by the holder sets that it leaves possible: what each of its parts says of them fixes the part. Assumes nothing.
use mathlib.Core.Path.{◌≡◌, ap₂}
use mathlib.Core.List.{List}
use mathlib.Core.Logic.Iff
use mathlib.Core.Logic.{◌↔◌}
use Prim.Native.Nat.{ℕ}
use Rattle.roles.proofs.Member.{set-ext}
use Rattle.meaning.specs.Rows.{Row, Leaves, Good}
use Rattle.meaning.specs.Says.{Says}
use Rattle.meaning.proofs.ListLaws.{ascending-ext}
use Rattle.meaning.proofs.Says.{row-says, says_same}

pub canonical : (n : ℕ) (v w : Row) → Good n v → Good n w → ((h : ℕ) → Leaves n v h ↔ Leaves n w h) → v ≡ w
canonical n v w gv gw same =
    let a : Says n (Leaves n v) v = row-says n v gv in
    let b : Says n (Leaves n v) w = says_same n (Leaves n w) (Leaves n v) w (λ h. Iff.symm (same h)) (row-says n w gw) in
    ap₂ {C = Row} (λ (d : ℕ) (l : List ℕ). record { denied = d; opens = l })
    (set-ext v.denied w.denied (λ r. Iff.trans (a.denied r) (Iff.symm (b.denied r))))
    (ascending-ext v.opens w.opens gv.free.ascending gw.free.ascending (λ o. Iff.trans (a.opens o) (Iff.symm (b.opens o))))
