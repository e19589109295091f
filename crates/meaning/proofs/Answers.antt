-- The answer to an event, exactly on its ground, and the row afterwards. Assumes nothing.
use mathlib.Core.Path.{◌≡◌, refl, sym, ap, ◌∙◌, subst⁻¹}
use mathlib.Core.Bool.{Bool, true, false, not, cond}
use mathlib.Core.Logic.{◌↔◌, ◌≢◌, ⊎_elim}
use Prim.Native.Nat.{ℕ, ◌≤◌, ◌<◌}
use native.Mathlib.Omega.{arith}
use lib.Dec.{T, T_not, leb→le, le→leb, nleb→lt}
use lib.Arith.{lt→nleb}
use lib.ListN.{length}
use Rattle.roles.proofs.Tests.{unlike}
use Rattle.meaning.specs.Events.{known, Reply}
use Rattle.meaning.specs.Rows.{Row, blank, Good, most_opens, fits, contradicts, step, Settled, unchanged, forgotten, overflow, settle, Settles}
use Rattle.meaning.proofs.Kept.{blank-good, step-good}
use Rattle.meaning.proofs.Verdicts.{contradicts-law}
use Rattle.meaning.specs.declared.Happening.{Happening}
use Rattle.meaning.specs.declared.Happening.TheVariants.{Allow, Deny, Given, Withdrawn}

-- a row that does not fit has more than 15 open sets
pub fits-law : (w : Row) → T (fits w) ↔ (length w.opens ≤ most_opens)
unfolding fits
fits-law w = (leb→le (length w.opens) most_opens, le→leb (length w.opens) most_opens)

fits-not-law : (w : Row) → T (not (fits w)) ↔ (most_opens < length w.opens)
unfolding fits
fits-not-law w = (nleb→lt (length w.opens) most_opens, lt→nleb (length w.opens) most_opens)

-- an update contradicts nothing
pub contradicts-reply : (e : Happening) (w : Row) → T (contradicts e w) → Reply e
unfolding contradicts
contradicts-reply (Allow s) w c = tt
contradicts-reply (Deny s) w c = tt
contradicts-reply (Given r) w c = absurd c
contradicts-reply (Withdrawn r) w c = absurd c

-- the answer is one of four, by the two tests and by whether the event is a reply
pub data Case (fit : Row → Bool) (e : Happening) (w : Row) : Settled → Type 0 where
  refused : T (contradicts e w) → Case fit e w (unchanged 6 w)
  taken : T (not (contradicts e w)) → T (fit (step e w)) → Case fit e w (record { answer = 0; row = step e w })
  no_room : Reply e → T (not (contradicts e w)) → T (not (fit (step e w))) → Case fit e w (unchanged 7 w)
  dropped : ¬ (Reply e) → T (not (fit (step e w))) → Case fit e w forgotten

pub case : (fit : Row → Bool) (e : Happening) (w : Row) → Case fit e w (settle fit e w)
unfolding settle overflow
case fit e w = go (contradicts e w) (fit (step e w)) refl refl
  where
    over : (e : Happening) → T (not (contradicts e w)) → T (not (fit (step e w))) → Case fit e w (overflow e w)
    over (Allow s) c f = no_room tt c f
    over (Deny s) c f = no_room tt c f
    over (Given r) c f = dropped (λ x. x) f
    over (Withdrawn r) c f = dropped (λ x. x) f

    go : (a b : Bool) → contradicts e w ≡ a → fit (step e w) ≡ b → Case fit e w (cond a (unchanged 6 w) (cond b (record { answer = 0; row = step e w }) (overflow e w)))
    go true b p q = refused (subst⁻¹ T p tt)
    go false true p q = taken (subst⁻¹ (λ (x : Bool). T (not x)) p tt) (subst⁻¹ T q tt)
    go false false p q = over e (subst⁻¹ (λ (x : Bool). T (not x)) p tt) (subst⁻¹ (λ (x : Bool). T (not x)) q tt)

-- rung by rung
module _ (fit : Row → Bool) (e : Happening) (w : Row) where
  pub settle-contradicts : contradicts e w ≡ true → settle fit e w ≡ unchanged 6 w
  unfolding settle
  settle-contradicts c = rw c

  pub settle-records : contradicts e w ≡ false → fit (step e w) ≡ true → settle fit e w ≡ record { answer = 0; row = step e w }
  unfolding settle
  settle-records c f = rw (c, f)

  pub settle-overflows : contradicts e w ≡ false → fit (step e w) ≡ false → settle fit e w ≡ overflow e w
  unfolding settle
  settle-overflows c f = rw (c, f)

-- two tests of room that agree on the row after the event give the same answer
pub settle-by : (fit fit' : Row → Bool) (e : Happening) (w : Row) → fit (step e w) ≡ fit' (step e w) → settle fit e w ≡ settle fit' e w
unfolding settle
settle-by fit fit' e w q = ap (λ (b : Bool). cond (contradicts e w) (unchanged 6 w) (cond b (record { answer = 0; row = step e w }) (overflow e w))) q

-- what one test of room refuses is so refused where another has no more room
pub settle-refuses : (fit fit' : Row → Bool) (e : Happening) (w : Row) → (fit (step e w) ≡ false → fit' (step e w) ≡ false) → (settle fit e w).answer ≢ 0 → settle fit' e w ≡ settle fit e w
settle-refuses fit fit' e w less n = go (contradicts e w) refl (fit (step e w)) refl
  where
    go : (c : Bool) → contradicts e w ≡ c → (f : Bool) → fit (step e w) ≡ f → settle fit' e w ≡ settle fit e w
    go true c f q = settle-contradicts fit' e w c ∙ sym (settle-contradicts fit e w c)
    go false c true q = absurd (n (ap (λ (t : Settled). t.answer) (settle-records fit e w c q)))
    go false c false q = settle-by fit' fit e w (less q ∙ sym q)

module _ (n : ℕ) (e : Happening) (w : Row) (g : Good n w) (k : T (known n e)) where
  -- too many and few enough exclude each other
  apart : {A : Type 0} → T (fits (step e w)) → most_opens < length (step e w).opens → A
  apart f m = let l = (fits-law (step e w)).0 f in absurd (let z : ⊥ = omega arith in z)

  settles : (t : Settled) → Case fits e w t → Settles n e w t
  settles t (refused c) = record {
    contradiction = ((λ q. (contradicts-law n w e g k).0 c), (λ f. refl));
    full = (unlike tt, (λ p. absurd (T_not (contradicts e w) p.1 c)));
    forgotten = (unlike tt, (λ p. absurd (p.0 (contradicts-reply e w c))));
    recorded = (unlike tt, (λ p. absurd (T_not (contradicts e w) p.0 c)));
    row-recorded = unlike tt;
    row-refused = λ q. refl;
    row-forgotten = unlike tt;
  }
  settles t (taken c f) = record {
    contradiction = (unlike tt, (λ q. absurd (T_not (contradicts e w) c ((contradicts-law n w e g k).1 q))));
    full = (unlike tt, (λ p. apart f p.2));
    forgotten = (unlike tt, (λ p. apart f p.1));
    recorded = ((λ q. (c, (fits-law (step e w)).0 f)), (λ p. refl));
    row-recorded = λ q. refl;
    row-refused = ⊎_elim (unlike tt) (unlike tt);
    row-forgotten = unlike tt;
  }
  settles t (no_room r c f) = record {
    contradiction = (unlike tt, (λ q. absurd (T_not (contradicts e w) c ((contradicts-law n w e g k).1 q))));
    full = ((λ q. (r, c, (fits-not-law (step e w)).0 f)), (λ p. refl));
    forgotten = (unlike tt, (λ p. absurd (p.0 r)));
    recorded = (unlike tt, (λ p. absurd (T_not (fits (step e w)) f ((fits-law (step e w)).1 p.1))));
    row-recorded = unlike tt;
    row-refused = λ q. refl;
    row-forgotten = unlike tt;
  }
  settles t (dropped r f) = record {
    contradiction = (unlike tt, (λ q. absurd (r (contradicts-reply e w ((contradicts-law n w e g k).1 q)))));
    full = (unlike tt, (λ p. absurd (r p.0)));
    forgotten = ((λ q. (r, (fits-not-law (step e w)).0 f)), (λ p. refl));
    recorded = (unlike tt, (λ p. absurd (T_not (fits (step e w)) f ((fits-law (step e w)).1 p.1))));
    row-recorded = unlike tt;
    row-refused = ⊎_elim (unlike tt) (unlike tt);
    row-forgotten = λ q. refl;
  }

  -- each answer exactly on its ground, with its row
  pub settle-law : Settles n e w (settle fits e w)
  settle-law = settles (settle fits e w) (case fits e w)

  -- the row afterwards is good
  pub settle-good : Good n (settle fits e w).row
  settle-good = go (settle fits e w) (case fits e w)
    where
      go : (t : Settled) → Case fits e w t → Good n t.row
      go t (refused c) = g
      go t (taken c f) = step-good n w e g k c
      go t (no_room r c f) = g
      go t (dropped r f) = blank-good n

-- and fits where it fitted before
pub settle-fits : (e : Happening) (w : Row) → T (fits w) → T (fits (settle fits e w).row)
settle-fits e w h = go (settle fits e w) (case fits e w)
  where
    go : (t : Settled) → Case fits e w t → T (fits t.row)
    go t (refused c) = h
    go t (taken c f) = f
    go t (no_room r c f) = h
    go t (dropped r f) = (fits-law blank).1 (omega arith)

-- an event answered 0 contradicts nothing
pub recorded⇒agrees : (e : Happening) (w : Row) → (settle fits e w).answer ≡ 0 → T (not (contradicts e w))
recorded⇒agrees e w = go (settle fits e w) (case fits e w)
  where
    go : (t : Settled) → Case fits e w t → t.answer ≡ 0 → T (not (contradicts e w))
    go t (refused c) q = unlike tt q
    go t (taken c f) q = c
    go t (no_room r c f) q = c
    go t (dropped r f) q = unlike tt q
