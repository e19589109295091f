-- Contradictions and verdicts, by the holder sets that a good row leaves possible. Assumes nothing.
use mathlib.Core.Path.{◌≡◌, refl, sym, ◌∙◌, subst⁻¹}
use mathlib.Core.Bool.{Bool, true, false, not}
use mathlib.Core.Logic.Iff
use mathlib.Core.Logic.{◌↔◌, ◌≢◌, inl, inr, ⊎_elim, by_cases}
use Prim.Native.Nat.{ℕ, ◌≤◌, ◌<◌}
use native.Mathlib.Nat.{lt_of_lt_of_le}
use native.Mathlib.Decide.{dec_lt}
use native.Mathlib.Omega.{arith}
use lib.Dec.{T, T_not}
use lib.Pow.{pow_mono}
use Rattle.roles.specs.Sets.{most_roles, In, all_below, without, shares, part_of, Below, outside, Names}
use Rattle.roles.proofs.Tests.{T?, T_true, T_false, unlike}
use Rattle.roles.proofs.Member.{in?, in-all_below, in_without, shares-law, part_of-law, not_part-law, below-law, some_in}
use Rattle.roles.proofs.Laws.{shares_at, shares-part_of, all_below-below, without-below, without-apart}
use Rattle.roles.proofs.Naming.{outside-le, outside-names}
use Rattle.meaning.specs.Events.{roles_in, known, agrees, NoneShares, AllShare, OneShares, OneSharesNone, Verdict, Decides, AskAbout}
use Rattle.meaning.specs.Lists.{Mem}
use Rattle.meaning.specs.Rows.{Row, Leaves, Good, has_part, contradicts, decide}
use Rattle.meaning.proofs.OpenLaws.{has_part-law, no_part-law}
use Rattle.meaning.proofs.Steps.{open-not-denied, known-below}
use Rattle.meaning.specs.declared.Happening.{Happening}
use Rattle.meaning.specs.declared.Happening.TheVariants.{Allow, Deny, Given, Withdrawn}

-- the largest holder set that a row leaves possible: all roles but the denied ones
unfoldable pub largest : ℕ → Row → ℕ
largest n w = without (all_below n) w.denied

in-largest : (n : ℕ) (w : Row) (r : ℕ) → r < n → ¬ (In w.denied r) → In (largest n w) r
unfolding largest
in-largest n w r b d = (in_without (all_below n) w.denied r).1 ((in-all_below n r).1 b, d)

module _ (n : ℕ) (w : Row) (g : Good n w) where
  open-in-largest : (o r : ℕ) → Mem o w.opens → In o r → In (largest n w) r
  open-in-largest o r m i = in-largest n w r ((below-law n o).0 (g.below o m) r i) (open-not-denied n w g o r m i)

  pub largest-left : Leaves n w (largest n w)
  unfolding largest
  largest-left = record {
    holder = without-below n (all_below n) w.denied (all_below-below n);
    denies = without-apart (all_below n) w.denied;
    meets = λ o m. let p = some_in o (g.nonempty o m) in shares_at (largest n w) o p.0 (open-in-largest o p.0 m p.1) p.1;
  }

  -- the largest without s is possible too where no open set is part of s
  largest-without-left : (s : ℕ) → T (not (has_part s w.opens)) → Leaves n w (without (largest n w) s)
  largest-without-left s t =
      let h = without (largest n w) s in
      record {
        holder = without-below n (largest n w) s largest-left.holder;
        denies = λ k. let p = (shares-law h w.denied).0 k in largest-left.denies (shares_at (largest n w) w.denied p.0 ((in_without (largest n w) s p.0).0 p.1).0 p.2);
        meets = λ o m. let p = not_part-law o s ((no_part-law s w.opens).0 t o m) in
            shares_at h o p.0 ((in_without (largest n w) s p.0).1 (open-in-largest o p.0 m p.1, p.2)) p.1;
      }

  -- s is part of the denied set exactly when no possible holder set shares a role with s
  pub denied-law : (s : ℕ) → Below n s → T (part_of s w.denied) ↔ NoneShares (Leaves n w) s
  denied-law s b = (
    (λ k h m t. m.denies (shares-part_of h s w.denied k t)),
    λ f. (part_of-law s w.denied).1 (λ r i. ⊎_elim (λ d. d)
        (λ d. absurd (f (largest n w) largest-left (shares_at (largest n w) s r (in-largest n w r ((below-law n s).0 b r i) d) i)))
        (in? w.denied r)),
  )

  -- some open set is part of s exactly when every possible holder set shares a role with s
  pub allowed-law : (s : ℕ) → T (has_part s w.opens) ↔ AllShare (Leaves n w) s
  allowed-law s = (
    (λ k h m. let p = (has_part-law s w.opens).0 k in shares-part_of h p.0 s p.2 (m.meets p.0 p.1)),
    λ f. ⊎_elim (λ t. t)
        (λ t. absurd (without-apart (largest n w) s (f (without (largest n w) s) (largest-without-left s t))))
        (T? (has_part s w.opens)),
  )

-- an event contradicts a good row exactly when no holder set that the row leaves possible agrees with it
pub contradicts-law : (n : ℕ) (w : Row) (e : Happening) → Good n w → T (known n e)
    → T (contradicts e w) ↔ ((h : ℕ) → Leaves n w h → ¬ (T (agrees e h)))
unfolding contradicts agrees roles_in
contradicts-law n w (Allow s) g k = denied-law n w g s.bits (known-below n (Allow s) k)
contradicts-law n w (Deny s) g k = (
  (λ t h m d. T_not (shares h s.bits) d ((allowed-law n w g s.bits).0 t h m)),
  λ f. (allowed-law n w g s.bits).1 (λ h m. ⊎_elim (λ t. t) (λ t. absurd (f h m t)) (T? (shares h s.bits))),
)
contradicts-law n w (Given r) g k = ((λ t. absurd t), (λ f. f (largest n w) (largest-left n w g) tt))
contradicts-law n w (Withdrawn r) g k = ((λ t. absurd t), (λ f. f (largest n w) (largest-left n w g) tt))

-- ---- the answer

module _ (P : ℕ → Type 0) (s : ℕ) where
  forced-10 : NoneShares P s → ¬ (AllShare P s) → Decides P s 10
  forced-10 none not-all = record {
    one_of = inl refl;
    deny = ((λ e. none), (λ p. refl));
    allow = (unlike tt, (λ p. absurd (not-all p)));
    undecided = (unlike tt, (λ p. absurd (none p.0.0 p.0.1 p.0.2)));
  }

  forced-11 : AllShare P s → ¬ (NoneShares P s) → Decides P s 11
  forced-11 all not_None = record {
    one_of = inr (inl refl);
    deny = (unlike tt, (λ p. absurd (not_None p)));
    allow = ((λ e. all), (λ p. refl));
    undecided = (unlike tt, (λ p. absurd (p.1.2 (all p.1.0 p.1.1))));
  }

  forced-12 : OneShares P s → OneSharesNone P s → Decides P s 12
  forced-12 one other = record {
    one_of = inr (inr refl);
    deny = (unlike tt, (λ p. absurd (p one.0 one.1 one.2)));
    allow = (unlike tt, (λ p. absurd (other.2 (p other.0 other.1))));
    undecided = ((λ e. (one, other)), (λ p. refl));
  }

-- what holds by the two tests of a decision, of which the first goes before the second
by_tests : (A : Type 0) (w : Row) (s : ℕ) → (part_of s w.denied ≡ true → A) → (part_of s w.denied ≡ false → has_part s w.opens ≡ true → A)
    → (part_of s w.denied ≡ false → has_part s w.opens ≡ false → A) → A
by_tests A w s x y z =
    ⊎_elim (λ t. x (T_true (part_of s w.denied) t))
    (λ t. ⊎_elim (λ u. y (T_false (part_of s w.denied) t) (T_true (has_part s w.opens) u)) (λ u. z (T_false (part_of s w.denied) t) (T_false (has_part s w.opens) u)) (T? (has_part s w.opens)))
    (T? (part_of s w.denied))

pub one_of_three : (w : Row) (s : ℕ) → Verdict (decide w s).answer
unfolding decide
one_of_three w s = by_tests (Verdict (decide w s).answer) w s (λ d. rw d (inl refl)) (λ d o. rw (d, o) (inr (inl refl))) (λ d o. rw (d, o) (inr (inr refl)))

-- a good row answers a session as the holder sets that it leaves possible force
pub decide-law : (n : ℕ) (w : Row) → Good n w → (s : ℕ) → Below n s → Decides (Leaves n w) s (decide w s).answer
unfolding decide
decide-law n w g s b = by_tests (Decides (Leaves n w) s (decide w s).answer) w s
    (λ d. rw d (let none = (denied-law n w g s b).0 (subst⁻¹ T d tt) in forced-10 (Leaves n w) s none (λ all. none top left (all top left))))
    (λ d o. rw (d, o) (let all = (allowed-law n w g s).0 (subst⁻¹ T o tt) in forced-11 (Leaves n w) s all (λ none. none top left (all top left))))
    (λ d o. rw (d, o) (forced-12 (Leaves n w) s
    (let r = not_part-law s w.denied (subst⁻¹ (λ (x : Bool). T (not x)) d tt) in (top, left, shares_at top s r.0 (in-largest n w r.0 ((below-law n s).0 b r.0 r.1) r.2) r.1))
    (without top s, largest-without-left n w g s (subst⁻¹ (λ (x : Bool). T (not x)) o tt), without-apart top s)))
  where
    top : ℕ
    top = largest n w

    left : Leaves n w top
    left = largest-left n w g

-- holder sets that are the same force the same answer
pub decides-same : (P Q : ℕ → Type 0) (s a : ℕ) → ((h : ℕ) → P h ↔ Q h) → Decides P s a → Decides Q s a
decides-same P Q s a e d = record {
  one_of = d.one_of;
  deny = Iff.trans d.deny ((λ f h q. f h ((e h).1 q)), (λ f h p. f h ((e h).0 p)));
  allow = Iff.trans d.allow ((λ f h q. f h ((e h).1 q)), (λ f h p. f h ((e h).0 p)));
  undecided = Iff.trans d.undecided (
    (λ x. ((x.0.0, (e x.0.0).0 x.0.1, x.0.2), (x.1.0, (e x.1.0).0 x.1.1, x.1.2))),
    λ x. ((x.0.0, (e x.0.0).1 x.0.1, x.0.2), (x.1.0, (e x.1.0).1 x.1.1, x.1.2)),
  );
}

-- and no two answers
pub decides-one : (P : ℕ → Type 0) (s a b : ℕ) → Decides P s a → Decides P s b → a ≡ b
decides-one P s a b d e =
    ⊎_elim (λ p. p ∙ sym (e.deny.1 (d.deny.0 p)))
    (⊎_elim (λ p. p ∙ sym (e.allow.1 (d.allow.0 p))) (λ p. p ∙ sym (e.undecided.1 (d.undecided.0 p))))
    d.one_of

-- ---- whom to ask about

-- a role is outside the denied set, where the session is no part of it
outside-some : (w : Row) (s : ℕ) → Below most_roles s → T (not (part_of s w.denied)) → outside s w.denied ≢ most_roles
outside-some w s b t e = T_not (part_of s w.denied) t ((outside-names s w.denied b).part.0 e)

-- the lowest role that the row does not deny is the lowest that some possible holder set has
outside-denied : (n : ℕ) (w : Row) (s : ℕ) → n ≤ most_roles → Good n w → Below n s → T (not (part_of s w.denied)) → AskAbout (Leaves n w) s (outside s w.denied)
outside-denied n w s few g b t =
    let names : Names s w.denied (outside s w.denied) = outside-names s w.denied (lt_of_lt_of_le b (pow_mono few)) in
    let at = names.named (outside-some w s (lt_of_lt_of_le b (pow_mono few)) t) in
    record {
      requested = at.0;
      possible = (largest n w, largest-left n w g, in-largest n w (outside s w.denied) ((below-law n s).0 b (outside s w.denied) at.0) at.1);
      lowest = λ q h i x m j. m.denies (shares_at x w.denied q j (names.first q h i));
    }

-- with 12 and only with it a role is named
pub ask-law : (n : ℕ) (w : Row) (s : ℕ) → n ≤ most_roles → Good n w → Below n s → (decide w s).answer ≡ 12 → AskAbout (Leaves n w) s (decide w s).role
unfolding decide
ask-law n w s few g b = by_tests ((decide w s).answer ≡ 12 → AskAbout (Leaves n w) s (decide w s).role) w s
    (λ d. rw d (unlike tt)) (λ d o. rw (d, o) (unlike tt)) (λ d o. rw (d, o) (λ e. outside-denied n w s few g b (subst⁻¹ (λ (x : Bool). T (not x)) d tt)))

pub ask-some : (w : Row) (s : ℕ) → Below most_roles s → (decide w s).answer ≡ 12 → (decide w s).role ≢ most_roles
unfolding decide
ask-some w s b = by_tests ((decide w s).answer ≡ 12 → (decide w s).role ≢ most_roles) w s
    (λ d. rw d (unlike tt)) (λ d o. rw (d, o) (unlike tt)) (λ d o. rw (d, o) (λ e. outside-some w s b (subst⁻¹ (λ (x : Bool). T (not x)) d tt)))

pub ask-none : (w : Row) (s : ℕ) → (decide w s).answer ≢ 12 → (decide w s).role ≡ most_roles
unfolding decide
ask-none w s = by_tests ((decide w s).answer ≢ 12 → (decide w s).role ≡ most_roles) w s (λ d. rw d (λ n. refl)) (λ d o. rw (d, o) (λ n. refl)) (λ d o. rw (d, o) (λ n. absurd (n refl)))

pub ask-most : (w : Row) (s : ℕ) → (decide w s).role ≤ most_roles
unfolding decide
ask-most w s = by_tests ((decide w s).role ≤ most_roles) w s (λ d. rw d (omega arith)) (λ d o. rw (d, o) (omega arith)) (λ d o. rw (d, o) (outside-le s w.denied))

pub ask-same : (P Q : ℕ → Type 0) (s r : ℕ) → ((h : ℕ) → P h ↔ Q h) → AskAbout P s r → AskAbout Q s r
ask-same P Q s r e a = record {
  requested = a.requested;
  possible = (a.possible.0, (e a.possible.0).0 a.possible.1, a.possible.2);
  lowest = λ q l i h k. a.lowest q l i h ((e h).1 k);
}

-- no two roles are the lowest
pub ask-one : (P : ℕ → Type 0) (s q r : ℕ) → AskAbout P s q → AskAbout P s r → q ≡ r
ask-one P s q r a b =
    by_cases (dec_lt q r) (λ l. absurd (b.lowest q l a.requested a.possible.0 a.possible.1 a.possible.2))
    (λ l. by_cases (dec_lt r q) (λ m. absurd (a.lowest r m b.requested b.possible.0 b.possible.1 b.possible.2)) (λ m. omega arith))
