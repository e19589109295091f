-- Read by the states that its events name, a trail leaves the same holder sets possible as read in the order it came. Assumes nothing.
use mathlib.Core.Path.{◌≡◌, refl, sym, ap, ◌∙◌, subst, subst⁻¹}
use mathlib.Core.Bool.{Bool, true, false, not, cond, ◌&&◌}
use mathlib.Core.List.{List, [], ◌∷◌, ◌++◌}
use mathlib.Core.Logic.{◌↔◌, ◌⊎◌, inl, inr, ⊎_elim}
use Prim.Native.Nat.{ℕ, zero, suc, ◌≤◌, ◌<◌}
use native.Mathlib.Decide.{ℕ_discrete}
use native.Mathlib.Omega.{arith}
use borrow.Author.Tests.{eq-eqb, ne_eqb, le-leb, lt-leb, lt-ltb, le-ltb}
use lib.Dec.{T, T_not, not_T, eqb, leb, ltb, leb→le, le→leb, ltb→lt, lt→ltb, nleb→lt}
use Rattle.roles.proofs.Tests.{T?, T-or, T_true, T_false}
use Rattle.meaning.specs.declared.Happening.{Happening}
use Rattle.meaning.specs.declared.Happening.TheVariants.{Allow, Deny, Given, Withdrawn}
use Rattle.meaning.specs.Events.{agrees, after, is_reply, Reply, Becomes, HolderSet, Possible}
use Rattle.meaning.proofs.Trails.{reply-after}
use Rattle.meaning.specs.States.{Numbered, happenings, became, Changes, TrueIn, PossibleIn, is_policy_state, due, is_late, is_ahead, Timing, follows, Timely}

update_agrees : (e : Happening) (h : ℕ) → ¬ (Reply e) → T (agrees e h)
unfolding agrees
update_agrees (Allow s) h n = absurd (n tt)
update_agrees (Deny s) h n = absurd (n tt)
update_agrees (Given x) h n = tt
update_agrees (Withdrawn x) h n = tt

-- what an event's number says
follows-reply : (g : ℕ) (e : Numbered) → is_reply e.happening ≡ true → T (follows g e) → g ≤ e.state
follows-reply g e r t = leb→le g e.state (subst (λ (b : Bool). T (cond b (leb g e.state) (ltb g e.state))) r t)

pub follows-update : (g : ℕ) (e : Numbered) → is_reply e.happening ≡ false → T (follows g e) → g < e.state
follows-update g e r t = ltb→lt g e.state (subst (λ (b : Bool). T (cond b (leb g e.state) (ltb g e.state))) r t)

pub follows-le : (g : ℕ) (e : Numbered) → T (follows g e) → g ≤ e.state
follows-le g e t = go (is_reply e.happening) refl
  where
    go : (b : Bool) → is_reply e.happening ≡ b → g ≤ e.state
    go true r = follows-reply g e r t
    go false r = let h = follows-update g e r t in omega arith

-- ---- states in which nothing changes

became-other : (e : Numbered) (t : List Numbered) (k h : ℕ) → (is_reply e.happening ≡ false → e.state ≡ k → ⊥) → became (e ∷ t) k h ≡ became t k h
unfolding became
became-other e t k h x = go (is_reply e.happening) refl
  where
    go : (b : Bool) → is_reply e.happening ≡ b → cond (not (is_reply e.happening) && eqb e.state k) (after e.happening h) (became t k h) ≡ became t k h
    go true r = rw r
    go false r = rw (r, ne_eqb e.state k (x r))

became-own : (e : Numbered) (t : List Numbered) (k h : ℕ) → is_reply e.happening ≡ false → e.state ≡ k → became (e ∷ t) k h ≡ after e.happening h
unfolding became
became-own e t k h r q = rw (r, eq-eqb e.state k q)

became-none : (k h : ℕ) → became [] k h ≡ h
unfolding became
became-none k h = refl

-- no update of a trail that starts in state g has a number up to g
quiet : (t : List Numbered) (g G k h : ℕ) → Timely g t G → k ≤ g → became t k h ≡ h
quiet [] g G k h y le = became-none k h
quiet (e ∷ t) g G k h y le =
    became-other e t k h (λ r q. let c = follows-update g e r y.0 in let z : ⊥ = omega arith in z)
    ∙ quiet t e.state G k h y.1 (let c = follows-le g e y.0 in omega arith)

-- from state g to state g + d
still : (t : List Numbered) (f : ℕ → ℕ) (g : ℕ) → Changes g t f → (m : ℕ) → g ≤ m → ((k h : ℕ) → g ≤ k → k < m → became t (suc k) h ≡ h) → f m ≡ f g
still t f g mv zero le q = ap f (let z : 0 ≡ g = omega arith in z)
still t f g mv (suc m) le q = elim (ℕ_discrete (suc m) g) [
  | yes e ↦ ap f e
  | no n ↦ mv m (omega arith) ∙ q m (f m) (omega arith) (omega arith) ∙ still t f g mv m (omega arith) (λ k h a b. q k h a (omega arith))
]

-- ---- one event

module _ (e : Numbered) (t : List Numbered) (f : ℕ → ℕ) (g G : ℕ) (y : Timely g (e ∷ t) G) (mv : Changes g (e ∷ t) f) where
  here : (k h : ℕ) → g ≤ k → k < e.state → (is_reply e.happening ≡ false → e.state ≡ suc k → ⊥) → became (e ∷ t) (suc k) h ≡ h
  here k h a b x = became-other e t (suc k) h x ∙ quiet t e.state G (suc k) h y.1 (omega arith)

  -- the holder set in the state that the event names
  named : (b : Bool) → is_reply e.happening ≡ b → f e.state ≡ after e.happening (f g)
  named true r =
      still (e ∷ t) f g mv e.state (follows-le g e y.0) (λ k h a b. here k h a b (λ q z. absurd (let w : true ≡ false = sym r ∙ q in let z : ◌≡◌ {A = ℕ} 0 1 = cc in let n : ⊥ = omega arith in n)))
      ∙ sym (reply-after e.happening (subst⁻¹ T r tt) (f g))
  named false r = before e.state refl (follows-update g e r y.0)
    where
      before : (m : ℕ) → e.state ≡ m → g < e.state → f e.state ≡ after e.happening (f g)
      before zero q c = absurd (let z : ⊥ = omega arith in z)
      before (suc m) q c =
          ap f q ∙ mv m (omega arith) ∙ became-own e t (suc m) (f m) r q
          ∙ ap (after e.happening) (still (e ∷ t) f g mv m (omega arith) (λ k h a b. here k h a (omega arith) (λ x z. let w : ⊥ = omega arith in w)))

  in-state : f e.state ≡ after e.happening (f g)
  in-state = named (is_reply e.happening) refl

  moves-on : Changes e.state t f
  moves-on k a =
      let c = follows-le g e y.0 in
      mv k (omega arith) ∙ became-other e t (suc k) (f k) (λ r q. let z : ⊥ = omega arith in z)

  -- it agrees with the holder set as it came exactly when it does with the one of the state it names
  agrees-named : T (agrees e.happening (f g)) ↔ T (agrees e.happening (f e.state))
  agrees-named = go (is_reply e.happening) refl
    where
      go : (b : Bool) → is_reply e.happening ≡ b → T (agrees e.happening (f g)) ↔ T (agrees e.happening (f e.state))
      go true r =
          let q : f e.state ≡ f g = named true r ∙ reply-after e.happening (subst⁻¹ T r tt) (f g) in (
            (λ a. subst⁻¹ (λ (h : ℕ). T (agrees e.happening h)) q a),
            λ a. subst (λ (h : ℕ). T (agrees e.happening h)) q a,
          )
      go false r = let n : ¬ (Reply e.happening) = subst T r in ((λ a. update_agrees e.happening (f e.state) n), (λ a. update_agrees e.happening (f g) n))

-- ---- a trail

forward : (t : List Numbered) (f : ℕ → ℕ) (g G : ℕ) → Timely g t G → Changes g t f → TrueIn t f → Becomes (happenings t) (f g) (f G)
forward [] f g G y mv a = sym (still [] f g mv G y (λ k h p q. became-none (suc k) h))
forward (e ∷ t) f g G y mv a = (
  (agrees-named e t f g G y mv).1 a.0,
  subst (λ (h : ℕ). Becomes (happenings t) h (f G)) (in-state e t f g G y mv) (forward t f e.state G y.1 (moves-on e t f g G y mv) a.1),
)

back : (t : List Numbered) (f : ℕ → ℕ) (g G h : ℕ) → Timely g t G → Changes g t f → Becomes (happenings t) (f g) h → TrueIn t f × (f G ≡ h)
back [] f g G h y mv b = (tt, still [] f g mv G y (λ k h p q. became-none (suc k) h) ∙ b)
back (e ∷ t) f g G h y mv b =
    let r = back t f e.state G h y.1 (moves-on e t f g G y mv) (subst⁻¹ (λ (x : ℕ). Becomes (happenings t) x h) (in-state e t f g G y mv) b.1) in
    (((agrees-named e t f g G y mv).0 b.0, r.0), r.1)

-- the holder sets that the updates make of h from state g on
line : ℕ → List Numbered → ℕ → ℕ → ℕ
line g t h zero = h
line g t h (suc k) = cond (leb g k) (became t (suc k) (line g t h k)) h

line-start : (g : ℕ) (t : List Numbered) (h : ℕ) → line g t h g ≡ h
unfolding line
line-start zero t h = refl
line-start (suc g) t h = rw (lt-leb (suc g) g (omega arith))

line-moves : (g : ℕ) (t : List Numbered) (h : ℕ) → Changes g t (line g t h)
unfolding line
line-moves g t h k a = rw (le-leb g k a)

-- read by the states that its events name, a trail leaves the same holder sets possible
pub possible-in : (n g : ℕ) (t : List Numbered) (G : ℕ) → Timely g t G → (h : ℕ) → PossibleIn n g t G h ↔ Possible n (happenings t) h
possible-in n g t G y h = (
  (λ p. (p.0 g, p.1, subst (Becomes (happenings t) (p.0 g)) p.4 (forward t p.0 g G y p.2 p.3))),
  λ p.
      let f = line g t p.0 in
      let q = line-start g t p.0 in
      let r = back t f g G h y (line-moves g t p.0) (subst⁻¹ (λ (x : ℕ). Becomes (happenings t) x h) q p.2) in
      (f, subst⁻¹ (HolderSet n) q p.1, line-moves g t p.0, r.0, r.1),
)

-- ---- numbers one behind the other

-- a later state ends the trail as well
pub timely-later : (g : ℕ) (t : List Numbered) (G H : ℕ) → Timely g t G → G ≤ H → Timely g t H
timely-later g [] G H y le = omega arith
timely-later g (e ∷ t) G H y le = (y.0, timely-later e.state t G H y.1 le)

-- what fits behind a state fits behind those before it
pub follows-sooner : (g G : ℕ) (e : Numbered) → g ≤ G → T (follows G e) → T (follows g e)
follows-sooner g G e le = go (is_reply e.happening)
  where
    go : (b : Bool) → T (cond b (leb G e.state) (ltb G e.state)) → T (cond b (leb g e.state) (ltb g e.state))
    go true h = let k = leb→le G e.state h in le→leb g e.state (omega arith)
    go false h = let k = ltb→lt G e.state h in lt→ltb g e.state (omega arith)

pub timely-then : (g : ℕ) (t : List Numbered) (G : ℕ) (e : Numbered) → Timely g t G → T (follows G e) → Timely g (t ++ e ∷ []) e.state
timely-then g [] G e y f = (follows-sooner g G e y f, omega arith)
timely-then g (f ∷ t) G e y k = (y.0, timely-then f.state t G e y.1 k)

pub happenings-then : (t : List Numbered) (e : Numbered) → happenings (t ++ e ∷ []) ≡ happenings t ++ e.happening ∷ []
happenings-then [] e = refl
happenings-then (f ∷ t) e = ap (λ (l : List Happening). f.happening ∷ l) (happenings-then t e)

-- ---- which events count

module _ (e : Happening) (i g : ℕ) where
  pub due-counts : is_late e i g ≡ false → is_ahead e i g ≡ false → (g ≡ due e i) × T (is_policy_state g)
  due-counts t a =
      let x : ¬ (g < due e i) = λ u. let z : ◌≡◌ {A = ℕ} 0 1 = cc (lt-ltb g (due e i) u) in omega arith in
      let y : ¬ (due e i < g) = λ u. T_not (is_ahead e i g) (subst⁻¹ (λ (b : Bool). T (not b)) a tt) ((T-or (ltb (due e i) g) (not (is_policy_state g))).1 (inl (subst⁻¹ T (lt-ltb (due e i) g u) tt))) in
      let s : T (is_policy_state g) = ⊎_elim (λ u. u) (λ u. absurd (T_not (is_ahead e i g) (subst⁻¹ (λ (b : Bool). T (not b)) a tt) ((T-or (ltb (due e i) g) (not (is_policy_state g))).1 (inr u)))) (T? (is_policy_state g)) in
      (omega (arith, x, y), s)

  pub due-not-late : g ≡ due e i → is_late e i g ≡ false
  due-not-late q = le-ltb g (due e i) (omega arith)

  pub due-not-ahead : g ≡ due e i → T (is_policy_state g) → is_ahead e i g ≡ false
  due-not-ahead q s = rw (le-ltb (due e i) g (omega arith), T_true (is_policy_state g) s)

pub due-follows : (e : Numbered) (i : ℕ) → e.state ≡ due e.happening i → T (follows i e)
due-follows e i t = go (is_reply e.happening) t
  where
    go : (b : Bool) → e.state ≡ cond b i (suc i) → T (cond b (leb i e.state) (ltb i e.state))
    go true q = le→leb i e.state (omega arith)
    go false q = lt→ltb i e.state (omega arith)

pub due-later : (e : Happening) (i : ℕ) → i ≤ due e i
due-later e i = go (is_reply e)
  where
    go : (b : Bool) → i ≤ cond b i (suc i)
    go true = omega arith
    go false = omega arith

-- a reply is held against the state itself, an update against the next one
module _ (e : Happening) (i g : ℕ) where
  no-state : T (not (is_policy_state g)) ↔ (4294967295 < g)
  no-state = ((λ t. nleb→lt g 4294967295 t), λ h. not_T (is_policy_state g) (λ t. let u : g ≤ 4294967295 = leb→le g 4294967295 t in omega arith))

  late_by : (d : ℕ) → due e i ≡ d → T (is_late e i g) ↔ (g < d)
  late_by d q = rw q (ltb→lt g d, lt→ltb g d)

  ahead-by : (d : ℕ) → due e i ≡ d → T (is_ahead e i g) ↔ ((d < g) ⊎ (4294967295 < g))
  ahead-by d q = rw q (
    (λ t. ⊎_elim (λ u. inl (ltb→lt d g u)) (λ u. inr (no-state.0 u)) ((T-or (ltb d g) (not (is_policy_state g))).0 t)),
    λ a. (T-or (ltb d g) (not (is_policy_state g))).1 (⊎_elim (λ u. inl (lt→ltb d g u)) (λ u. inr (no-state.1 u)) a),
  )

due-reply : (e : Happening) (i : ℕ) → Reply e → due e i ≡ i
due-reply e i r = rw (T_true (is_reply e) r)

due-update : (e : Happening) (i : ℕ) → ¬ (Reply e) → due e i ≡ suc i
due-update e i n = rw (T_false (is_reply e) (not_T (is_reply e) n))

pub timing : Timing
timing = record {
  reply-late = λ e r i g. late_by e i g i (due-reply e i r);
  reply-ahead = λ e r i g. ahead-by e i g i (due-reply e i r);
  update-late = λ e n i g. let q = late_by e i g (suc i) (due-update e i n) in ((λ t. let h = q.0 t in omega arith), (λ h. q.1 (omega arith)));
  update-ahead = λ e n i g. ahead-by e i g (suc i) (due-update e i n);
}
