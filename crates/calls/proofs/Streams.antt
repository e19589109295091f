-- Streams of events whose replies have changed places say the same of each permission, and their numbers go with the policy state. Assumes nothing.
--     events_of p es    the happenings of a stream about p
--     Swapped           the same events of one permission, where neighbouring replies have changed places
--     Alike             two streams with the same events of each permission, up to such changes
--     after_all cs h    the past h, and then the calls cs
use mathlib.Core.Path.{◌≡◌, refl, sym, ap, ap₂, ◌∙◌, subst}
use mathlib.Core.Bool.{Bool, true, false, cond}
use mathlib.Core.List.{List, [], ◌∷◌, ◌++◌, append_assoc, append-nil}
use mathlib.Core.Logic.{◌↔◌, ◌⊎◌, inl, inr, ⊎_elim}
use Prim.Native.Nat.{ℕ, zero, suc, ◌≤◌, ◌<◌}
use native.Mathlib.Omega.{arith}
use borrow.Author.Tests.{eq-eqb}
use lib.Dec.{T, eqb}
use Rattle.meaning.specs.declared.Event.{Event}
use Rattle.meaning.specs.declared.Happening.{Happening}
use Rattle.meaning.specs.declared.Happening.TheVariants.{Allow, Deny, Given, Withdrawn}
use Rattle.meaning.specs.Events.{Reply, after, Becomes, Possible}
use Rattle.meaning.specs.States.{Numbered, numbered, happenings, due, follows}
use Rattle.meaning.proofs.Trails.{becomes-swap}
use Rattle.meaning.proofs.States.{happenings-then, due-later, due-follows, follows-sooner}
use Rattle.meaning.specs.Kinds.{happened}
use Rattle.area.specs.State.{State, area_of}
use Rattle.calls.specs.Calls.{Out, event_of}
use Rattle.calls.specs.Histories.{Call, event, out_of, Trail, longer, trail_on, trail_after, roles_after, policy_on, policy_after, Past, called, area, answer_to, roles, policy, trail, call_for, call_of, calls, after_calls, At, AllRecorded}
use Rattle.calls.specs.Demands as demands
use Rattle.calls.proofs.Outcomes.{Outcome, refused, recorded, forgotten, event-does}
use Rattle.calls.proofs.Invariant.{holds, policy_on-recorded}

-- an event without its permission
abbrev pub as_numbered : Event → Numbered
as_numbered e = numbered e.happening e.state

unfoldable pub events_of : ℕ → List Event → List Happening
events_of p [] = []
events_of p (e ∷ es) = cond (eqb e.permission p) (e.happening ∷ events_of p es) (events_of p es)

pub data Swapped : List Happening → List Happening → Type 0 where
  same : {es : List Happening} → Swapped es es
  first : {es fs : List Happening} (e : Happening) → Swapped es fs → Swapped (e ∷ es) (e ∷ fs)
  swap : {es : List Happening} (e f : Happening) → Reply e → Reply f → Swapped (e ∷ f ∷ es) (f ∷ e ∷ es)
  further : {es fs gs : List Happening} → Swapped es fs → Swapped fs gs → Swapped es gs

abbrev pub Alike : List Event → List Event → Type 0
Alike es fs = (p : ℕ) → Swapped (events_of p es) (events_of p fs)

flip : {es fs : List Happening} → Swapped es fs → Swapped fs es
flip same = same
flip (first e r) = first e (flip r)
flip (swap e f a b) = swap f e b a
flip (further r s) = further (flip s) (flip r)

swapped-becomes : {es fs : List Happening} → Swapped es fs → (x y : ℕ) → Becomes es x y → Becomes fs x y
swapped-becomes same x y z = z
swapped-becomes (first e r) x y z = (z.0, swapped-becomes r (after e x) y z.1)
swapped-becomes (swap {es = es} e f a b) x y z = becomes-swap [] es e f a b x y z
swapped-becomes (further r s) x y z = swapped-becomes s x y (swapped-becomes r x y z)

pub swapped-possible : {es fs : List Happening} → Swapped es fs → (n h : ℕ) → Possible n es h ↔ Possible n fs h
swapped-possible r n h = ((λ p. (p.0, p.1, swapped-becomes r p.0 h p.2)), (λ p. (p.0, p.1, swapped-becomes (flip r) p.0 h p.2)))

-- ---- pasts that go on with a stream

pub after_all : List Call → Past → Past
after_all [] h = h
after_all (c ∷ cs) h = after_all cs (called h c)

pub after-area : (cs : List Call) (h : Past) → area (after_all cs h) ≡ after_calls cs (area h)
unfolding after_all after_calls area
after-area [] h = refl
after-area (c ∷ cs) h = after-area cs (called h c)

trail-call : (q p : ℕ) (e : Happening) (g i : ℕ) (t : Trail) → trail_after q (call_for p e g) 0 i t ≡ cond (eqb p q) (longer (numbered e g) t) t
unfolding trail_after call_for trail_on happened
trail-call q p (Allow s) g i t = refl
trail-call q p (Deny s) g i t = refl
trail-call q p (Given r) g i t = refl
trail-call q p (Withdrawn r) g i t = refl

roles-call : (p : ℕ) (e : Happening) (g a n : ℕ) → roles_after (call_for p e g) a n ≡ n
unfolding roles_after call_for
roles-call p (Allow s) g a n = refl
roles-call p (Deny s) g a n = refl
roles-call p (Given r) g a n = refl
roles-call p (Withdrawn r) g a n = refl

policy-call : (p : ℕ) (e : Happening) (g a i : ℕ) → policy_after (call_for p e g) a i ≡ policy_on (numbered e g) a i
unfolding policy_after call_for happened
policy-call p (Allow s) g a i = refl
policy-call p (Deny s) g a i = refl
policy-call p (Given r) g a i = refl
policy-call p (Withdrawn r) g a i = refl

pub stream-roles : (es : List Event) (h : Past) → roles (after_all (calls es) h) ≡ roles h
unfolding after_all roles
stream-roles [] h = refl
stream-roles (e ∷ es) h = stream-roles es (called h (call_of e)) ∙ roles-call e.permission e.happening e.state (answer_to h (call_of e)) (roles h)

comes-in : (p : ℕ) (e : Happening) (g : ℕ) → (k : ℕ) × (x : ℕ) × (k ≤ 3) × (call_for p e g ≡ event p k x g) × (happened k x ≡ e)
unfolding call_for happened
comes-in p (Deny s) g = (0, s.bits, omega arith, refl, refl)
comes-in p (Allow s) g = (1, s.bits, omega arith, refl, refl)
comes-in p (Withdrawn r) g = (2, r, omega arith, refl, refl)
comes-in p (Given r) g = (3, r, omega arith, refl, refl)

pub comes : demands.ComesIn
comes = record {
  calls = comes-in;
  trails = λ p e g i t. trail-call p p e g i t ∙ ap (λ (b : Bool). cond b (longer (numbered e g) t) t) (eq-eqb p p refl);
}

-- ---- where every event is answered 0, the trails are the stream's

pub stream-trail : (es : List Event) (h : Past) (q : ℕ) → AllRecorded es (area h) → happenings (trail (after_all (calls es) h) q).events ≡ happenings (trail h q).events ++ events_of q es
unfolding after_all events_of area trail
stream-trail [] h q r = sym (append-nil (happenings (trail h q).events))
stream-trail (e ∷ es) h q r =
    stream-trail es (called h (call_of e)) q r.1
    ∙ ap (λ (t : Trail). happenings t.events ++ events_of q es) (ap (λ (a : ℕ). trail_after q (call_of e) a (policy h) (trail h q)) r.0 ∙ trail-call q e.permission e.happening e.state (policy h) (trail h q))
    ∙ one (eqb e.permission q)
  where
    f : Numbered
    f = as_numbered e

    told : List Happening
    told = happenings (trail h q).events

    one : (b : Bool) → happenings (cond b (longer f (trail h q)) (trail h q)).events ++ events_of q es ≡ told ++ cond b (e.happening ∷ events_of q es) (events_of q es)
    one true = ap (λ (t : List Happening). t ++ events_of q es) (happenings-then (trail h q).events f) ∙ append_assoc told (e.happening ∷ []) (events_of q es)
    one false = refl

-- ---- and their numbers go with the policy state

outcome-due : (s : State) (p : ℕ) (e : Numbered) (o : Out) → Outcome s p e o → o.answer ≡ 0 → e.state ≡ due e.happening s.policy
outcome-due s p e o (refused a x y) z = absurd (x z)
outcome-due s p e o (recorded d k c g) z = d
outcome-due s p e o (forgotten d r g) z = d

module _ (h : Past) (e : Event) (zero-answer : answer_to h (call_of e) ≡ 0) where
  recorded-due : e.state ≡ due e.happening (policy h)
  unfolding out_of
  recorded-due =
      let c = comes-in e.permission e.happening e.state in
      let k = holds h in
      let f : Happening = happened c.0 c.1 in
      let a : (event_of (area_of k.state) e.permission c.0 c.1 e.state).answer ≡ 0 =
      ap (λ (l : List ℕ). (event_of l e.permission c.0 c.1 e.state).answer) (sym k.same_area) ∙ ap (λ (d : Call). answer_to h d) (sym c.3) ∙ zero-answer in
      outcome-due k.state e.permission (numbered f e.state) _ (event-does k.state k.good e.permission c.0 c.1 e.state) a
      ∙ ap₂ {C = ℕ} (λ (d : Happening) (i : ℕ). due d i) c.4 k.same-policy

  recorded-policy : policy (called h (call_of e)) ≡ e.state
  unfolding policy
  recorded-policy =
      policy-call e.permission e.happening e.state (answer_to h (call_of e)) (policy h)
      ∙ ap (λ (a : ℕ). policy_on (as_numbered e) a (policy h)) zero-answer
      ∙ policy_on-recorded (as_numbered e) (policy h) recorded-due

  recorded-later : policy h ≤ e.state
  recorded-later = let d = due-later e.happening (policy h) in omega (arith, recorded-due)

-- every event of a recorded stream stands behind the state before it
stream-behind : (es : List Event) (h : Past) → AllRecorded es (area h) → (j : ℕ) (f : Event) → At es j f → T (follows (policy h) (as_numbered f))
unfolding area
stream-behind [] h r j f x = absurd x
stream-behind (e ∷ es) h r zero f x = subst (λ (c : Event). T (follows (policy h) (as_numbered c))) x (due-follows (as_numbered e) (policy h) (recorded-due h e r.0))
stream-behind (e ∷ es) h r (suc j) f x =
    follows-sooner (policy h) (policy (called h (call_of e))) (as_numbered f) (let p = recorded-policy h e r.0 in let q = recorded-later h e r.0 in omega arith)
    (stream-behind es (called h (call_of e)) r.1 j f x)

-- and behind every event before it
pub stream-order : (es : List Event) (h : Past) → AllRecorded es (area h) → (i j : ℕ) (e f : Event) → At es i e → At es j f → i < j → T (follows e.state (as_numbered f))
unfolding area
stream-order [] h r i j e f x y lt = absurd x
stream-order (d ∷ es) h r i zero e f x y lt = absurd (let z : ⊥ = omega arith in z)
stream-order (d ∷ es) h r zero (suc j) e f x y lt =
    subst (λ (i : ℕ). T (follows i (as_numbered f))) (recorded-policy h d r.0 ∙ ap (λ (c : Event). c.state) x) (stream-behind es (called h (call_of d)) r.1 j f y)
stream-order (d ∷ es) h r (suc i) (suc j) e f x y lt = stream-order es (called h (call_of d)) r.1 i j e f x y (omega arith)

pub stream-grows : (es : List Event) (h : Past) → AllRecorded es (area h) → policy h ≤ policy (after_all (calls es) h)
unfolding after_all area
stream-grows [] h r = omega arith
stream-grows (e ∷ es) h r = let a = stream-grows es (called h (call_of e)) r.1 in let p = recorded-policy h e r.0 in let q = recorded-later h e r.0 in omega arith

pub stream-within : (es : List Event) (h : Past) → AllRecorded es (area h) → (i : ℕ) (e : Event) → At es i e → e.state ≤ policy (after_all (calls es) h)
unfolding after_all area
stream-within [] h r i e x = absurd x
stream-within (d ∷ es) h r zero e x =
    subst (λ (c : Event). c.state ≤ policy (after_all (calls es) (called h (call_of d)))) x (let a = stream-grows es (called h (call_of d)) r.1 in let p = recorded-policy h d r.0 in omega arith)
stream-within (d ∷ es) h r (suc i) e x = stream-within es (called h (call_of d)) r.1 i e x

-- the state after a stream is the one before it, or one that an event names
pub stream-named : (es : List Event) (h : Past) → AllRecorded es (area h)
    → (policy (after_all (calls es) h) ≡ policy h) ⊎ ((i : ℕ) × (e : Event) × At es i e × (e.state ≡ policy (after_all (calls es) h)))
unfolding after_all area
stream-named [] h r = inl refl
stream-named (e ∷ es) h r = ⊎_elim
    (λ q. inr (0, e, refl, sym (q ∙ recorded-policy h e r.0)))
    (λ q. inr (suc q.0, q.1, q.2, q.3))
    (stream-named es (called h (call_of e)) r.1)
