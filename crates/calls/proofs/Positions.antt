-- Streams whose positions correspond, where only replies pass each other, are alike: the events of fs are pulled out of es one by one,
-- each past those that stand before it. Assumes nothing.
use mathlib.Core.Path.{◌≡◌, refl, sym, ap, ◌∙◌, subst, subst⁻¹}
use mathlib.Core.Bool.{Bool, true, false, cond, ◌&&◌, and-false}
use mathlib.Core.List.{List, [], ◌∷◌}
use mathlib.Core.Logic.{◌↔◌, ◌≢◌, ⊎_elim}
use Prim.Native.Nat.{ℕ, zero, suc, ◌-◌, ◌<◌}
use native.Mathlib.Omega.{arith}
use borrow.Author.Tests.{lt-ltb}
use lib.Dec.{T, eqb, ltb, eqb→eq, ltb→lt}
use Rattle.roles.proofs.Tests.{T?, T_and, T-ext, T_true, T_false}
use Rattle.meaning.specs.declared.Event.{Event}
use Rattle.meaning.specs.declared.Happening.{Happening}
use Rattle.meaning.specs.Events.{Reply, is_reply}
use Rattle.calls.specs.Histories.{At, Rearranged, KeepsOrder}
use Rattle.calls.proofs.Streams.{events_of, Swapped, same, first, swap, further, Alike}

both : (a b : Bool) → ¬ (¬ (T a × T b)) → T a × T b
both true true h = (tt, tt)
both true false h = absurd (h (λ q. q.1))
both false b h = absurd (h (λ q. q.0))

-- e stays before f, or f passes it
passes : (e f : Happening) (es fs : List Happening) (k m : Bool) → (T k → T m → Reply e × Reply f) → Swapped es (cond m (f ∷ fs) fs)
    → Swapped (cond k (e ∷ es) es) (cond m (f ∷ cond k (e ∷ fs) fs) (cond k (e ∷ fs) fs))
passes e f es fs false m r w = w
passes e f es fs true true r w = further (first e w) (swap e f (r tt tt).0 (r tt tt).1)
passes e f es fs true false r w = first e w

module _ (p : ℕ) where
  -- the events about p whose positions pass the test b
  rest : (ℕ → Bool) → List Event → List Happening
  rest b [] = []
  rest b (e ∷ es) = cond (b 0 && eqb e.permission p) (e.happening ∷ rest (λ i. b (suc i)) es) (rest (λ i. b (suc i)) es)

  rest_all : (es : List Event) → rest (λ i. true) es ≡ events_of p es
  unfolding rest events_of
  rest_all [] = refl
  rest_all (e ∷ es) = rw (rest_all es)

  rest-none : (b : ℕ → Bool) (es : List Event) → ((i : ℕ) (e : Event) → At es i e → b i ≡ false) → rest b es ≡ []
  unfolding rest
  rest-none b [] h = refl
  rest-none b (e ∷ es) h = rw (h 0 e refl) (rest-none (λ i. b (suc i)) es (λ i. h (suc i)))

  rest-same : (b c : ℕ → Bool) (es : List Event) → ((i : ℕ) (e : Event) → At es i e → b i ≡ c i) → rest b es ≡ rest c es
  unfolding rest
  rest-same b c [] h = refl
  rest-same b c (e ∷ es) h = rw (h 0 e refl, rest-same (λ i. b (suc i)) (λ i. c (suc i)) es (λ i. h (suc i)))

  -- f, at the position a, comes out first, past replies to its permission
  pull : (b c : ℕ → Bool) (es : List Event) (a : ℕ) (f : Event) → At es a f → b a ≡ true → c a ≡ false → ((i : ℕ) (e : Event) → At es i e → i ≢ a → b i ≡ c i)
      → ((i : ℕ) (e : Event) → At es i e → i < a → c i ≡ true → e.permission ≡ f.permission → Reply e.happening × Reply f.happening)
      → Swapped (rest b es) (cond (eqb f.permission p) (f.happening ∷ rest c es) (rest c es))
  unfolding rest
  pull b c [] a f at x y s r = elim at [ ]
  pull b c (e ∷ es) zero f at x y s r = rw (x, y, rest-same (λ i. b (suc i)) (λ i. c (suc i)) es (λ i g q. s (suc i) g q (λ z. omega arith)), at) same
  pull b c (e ∷ es) (suc a) f at x y s r =
      rw (s 0 e refl (λ z. omega arith))
      (passes e.happening f.happening (rest (λ i. b (suc i)) es) (rest (λ i. c (suc i)) es) (c 0 && eqb e.permission p) (eqb f.permission p)
      (λ k m. let q = (T_and (c 0) (eqb e.permission p)).0 k in
      r 0 e refl (omega arith) (T_true (c 0) q.0) (eqb→eq e.permission p q.1 ∙ sym (eqb→eq f.permission p m)))
      (pull (λ i. b (suc i)) (λ i. c (suc i)) es a f at x y (λ i g q n. s (suc i) g q (λ z. n (omega arith))) (λ i g q n. r (suc i) g q (omega arith))))

  module _ (es : List Event) where
    -- the events that pass the test b correspond to those of fs
    record Left (b : ℕ → Bool) (fs : List Event) : Type 0 where
      to : ℕ → ℕ
      from : ℕ → ℕ
      there : (i : ℕ) (e : Event) → At es i e → T (b i) → At fs (to i) e × (from (to i) ≡ i)
      back : (j : ℕ) (f : Event) → At fs j f → At es (from j) f × (to (from j) ≡ j) × T (b (from j))
      order : (i j : ℕ) (e f : Event) → At es i e → At es j f → e.permission ≡ f.permission → ¬ (Reply e.happening × Reply f.happening) → i < j → T (b i) → T (b j) → to i < to j

    module _ (b : ℕ → Bool) (f : Event) (fs : List Event) (l : Left b (f ∷ fs)) where
      -- without the one that stands first in fs
      abbrev fewer : ℕ → Bool
      fewer i = b i && ltb 0 (l.to i)

      split : (i : ℕ) → T (fewer i) ↔ (T (b i) × (0 < l.to i))
      split i = (
        (λ t. let q = (T_and (b i) (ltb 0 (l.to i))).0 t in (q.0, ltb→lt 0 (l.to i) q.1)),
        λ q. (T_and (b i) (ltb 0 (l.to i))).1 (q.0, subst⁻¹ T (lt-ltb 0 (l.to i) q.1) tt),
      )

      later : Left fewer fs
      later = record {
        to = λ i. l.to i - 1;
        from = λ j. l.from (suc j);
        there = λ i e x y.
            let z = (split i).0 y in
            let t = l.there i e x z.0 in
            let n : l.to i ≡ suc (l.to i - 1) = omega (arith, z.1) in
            (subst (λ (k : ℕ). At (f ∷ fs) k e) n t.0, ap l.from (sym n) ∙ t.1);
        back = λ j g x. let k = l.back (suc j) g x in (k.0, omega (arith, k.1), (split (l.from (suc j))).1 (k.2, omega (arith, k.1)));
        order = λ i j e g x y q r n u v.
            let w : l.to i < l.to j = l.order i j e g x y q r n ((split i).0 u).0 ((split j).0 v).0 in
            omega (arith, ((split i).0 u).1);
      }

      out_first : Swapped (rest b es) (cond (eqb f.permission p) (f.happening ∷ rest fewer es) (rest fewer es))
      out_first =
          let k = l.back 0 f refl in
          pull b fewer es (l.from 0) f k.0 (T_true _ k.2) (ap (λ (n : ℕ). b (l.from 0) && ltb 0 n) k.1 ∙ and-false (b (l.from 0)))
          (λ i e x n. T-ext (b i) (fewer i) (
            (λ t. let z : l.to i ≢ 0 = λ u. n (sym (l.there i e x t).1 ∙ ap l.from u) in (split i).1 (t, omega (arith, z))),
            λ t. ((split i).0 t).0,
          ))
          (λ i e x n t q. both (is_reply e.happening) (is_reply f.happening) (λ r.
          let w : l.to i < l.to (l.from 0) = l.order i (l.from 0) e f x k.0 q r n ((split i).0 (subst⁻¹ T t tt)).0 k.2 in
          omega (arith, k.1)))

    gather : (b : ℕ → Bool) (fs : List Event) → Left b fs → Swapped (rest b es) (events_of p fs)
    unfolding events_of
    gather b [] l = rw (rest-none b es (λ i e x. ⊎_elim (λ t. absurd (l.there i e x t).0) (T_false (b i)) (T? (b i)))) same
    gather b (f ∷ fs) l =
        let w = gather (fewer b f fs l) fs (later b f fs l) in
        further (out_first b f fs l) (passes f.happening f.happening _ _ (eqb f.permission p) false (λ k m. absurd m) w)

pub by-positions : (es fs : List Event) (m : Rearranged es fs) → KeepsOrder es m.to → Alike es fs
by-positions es fs m o p =
    rw rest_all at (gather p es (λ i. true) fs (record {
      to = m.to;
      from = m.from;
      there = λ i e x y. m.there i e x;
      back = λ j f x. ((m.back j f x).0, (m.back j f x).1, tt);
      order = λ i j e f x y q r n u v. o i j e f x y r n;
    }))
