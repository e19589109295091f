-- What this crate shows: each theorem with its name, and the steps between calls and pasts that they take. Assumes nothing.
use mathlib.Core.Path.{◌≡◌, sym, ap, ◌∙◌, subst, subst⁻¹}
use mathlib.Core.List.{List, [], ◌∷◌}
use mathlib.Core.Logic.Iff
use mathlib.Core.Logic.{◌↔◌}
use Prim.Native.Nat.{ℕ}
use Rattle.meaning.specs.declared.Event.{Event}
use lib.Dec.{le→leb}
use Rattle.meaning.specs.Events.{last_policy_state}
use Rattle.meaning.specs.States.{happenings}
use Rattle.meaning.proofs.Theorems.{row-leaves}
use Rattle.area.specs.State.{State, GoodState, state_of, area_of}
use Rattle.area.proofs.Bytes.{good_length, good-state, good-area, area-state}
use Rattle.calls.specs.Calls.{Out}
use Rattle.calls.specs.Histories.{call_of, Past, opened, called, area, roles, policy, trail, PossibleAfter}
use Rattle.calls.proofs.Invariant.{holds}
use Rattle.calls.proofs.Demands.{header, as-it-came, demand-3}
use Rattle.lines.specs.Written.{lines_write, lines_leave}
use Rattle.carry.specs.Carry.{Carry, Reached, HeldPossible, Known, EveryArea}
use Rattle.carry.proofs.AreaTold.{Tells, events, tell-all}
use Rattle.carry.proofs.LinesTold.{requests_of, printed-lines, all-in-range, lines-zero, lines_left, opens, zeros-all}

pub carry : Carry
unfolding lines_write lines_leave
carry l m b g long =
    let s : State = state_of l in
    let gs : GoodState s = good-state l g in
    let q = printed-lines s in
    let z = zeros-all s gs m long in
    record {
      answers = rw q (lines-zero (area_of s) 1 m (requests_of s) (all-in-range s gs) z);
      leaves = rw q (lines_left (area_of s) m (requests_of s) (all-in-range s gs) z) ∙ good-area l g b;
    }

-- a past goes on by events, each a call
tells-on : (es : List Event) (h : Past) (m : List ℕ) → Tells es (area h) m → (k : Past) × (area k ≡ m)
unfolding area
tells-on [] h m t = (h, t)
tells-on (e ∷ es) h m t = tells-on es (called h (call_of e)) m t.1

pub reached : Reached
unfolding area
reached l b g =
    let s : State = state_of l in
    let gs : GoodState s = good-state l g in
    let o = opens s gs l (good_length l g) in
    let first : Past = opened l s.roles s.policy (le→leb s.policy last_policy_state gs.policy-small) (ap (λ (x : Out). x.answer) o) in
    let k = tells-on (events s.policy s.rows) first (area_of s) (subst⁻¹ (λ (x : Out). Tells (events s.policy s.rows) x.area (area_of s)) o (tell-all s gs)) in
    (k.0, k.1 ∙ good-area l g b)

pub known : Known
known h p x =
    let k = holds h in
    let held : state_of (area h) ≡ k.state = ap state_of k.same_area ∙ area-state k.state k.good in
    Iff.trans (rw (held, k.rows p, k.same_roles) (row-leaves (roles h) (happenings (trail h p).events) (k.trail-recorded p) x)) (Iff.symm (as-it-came h p x))

-- a good area, by a past that reaches it
module _ (l : List ℕ) (r : (h : Past) × (area h ≡ l)) where
  its-roles : (state_of l).roles ≡ roles r.0
  its-roles = ap (λ (m : List ℕ). (state_of m).roles) (sym r.1) ∙ (header r.0).0

  its-policy : (state_of l).policy ≡ policy r.0
  its-policy = ap (λ (m : List ℕ). (state_of m).policy) (sym r.1) ∙ (header r.0).1

  its-sets : (p x : ℕ) → HeldPossible l p x ↔ PossibleAfter r.0 p x
  its-sets p x = subst (λ (m : List ℕ). HeldPossible m p x ↔ PossibleAfter r.0 p x) r.1 (known r.0 p x)

pub every-area : EveryArea
every-area l k bl bk gl gk =
    let h = reached l bl gl in
    let j = reached k bk gk in (
      (λ e. (
        ap (λ (m : List ℕ). (state_of m).roles) e,
        ap (λ (m : List ℕ). (state_of m).policy) e,
        λ p v x. subst (λ (m : List ℕ). HeldPossible l p x ↔ HeldPossible m p x) e ((λ y. y), (λ y. y)),
      )),
      λ f.
          let same : area h.0 ≡ area j.0 = (demand-3 h.0 j.0).1 (
            sym (its-roles l h) ∙ f.0 ∙ its-roles k j,
            sym (its-policy l h) ∙ f.1 ∙ its-policy k j,
            λ p v x. let a = its-sets l h p x in let b = its-sets k j p x in let c = f.2 p v x in
                ((λ y. b.0 (c.0 (a.1 y))), (λ y. a.0 (c.1 (b.1 y)))),
          ) in
          sym h.1 ∙ same ∙ j.1,
    )
