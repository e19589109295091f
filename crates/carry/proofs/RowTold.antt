-- A good row of at most 15 open sets, told as replies to a permission without a row: each is recorded, and the row comes out the same. Assumes nothing.
use mathlib.Core.Path.{◌≡◌, refl, sym, ap, ◌∙◌, subst, subst⁻¹}
use mathlib.Core.Bool.{Bool, true, false, not, cond}
use mathlib.Core.List.{List, [], ◌∷◌, ◌++◌, append-nil, append_assoc}
use mathlib.Core.Logic.{inl, inr, ⊎_elim}
use Prim.Native.Nat.{ℕ, ◌≤◌}
use native.Mathlib.Omega.{arith}
use lib.Dec.{T, not_T, eqb, eqb→eq}
use lib.ListN.{length, length-append}
use Rattle.roles.specs.Sets.{all_below, part_of, shares, joined}
use Rattle.roles.proofs.Member.{in-joined, in-empty, set-ext, some_in, part_of-law}
use Rattle.roles.proofs.Laws.{part_of-all_below, shares_at}
use Rattle.meaning.specs.declared.Happening.TheVariants.{Allow, Deny}
use Rattle.meaning.specs.Events.{known, roles_in}
use Rattle.meaning.specs.Lists.{Mem, Ascending, any}
use Rattle.meaning.specs.Rows.{Row, blank, Good, most_opens, has_part, losing, denying, allowing, contradicts, step, row_after, Recorded}
use Rattle.meaning.proofs.ListLaws.{mem-snoc}
use Rattle.meaning.proofs.OpenLaws.{reduce-none}
use Rattle.meaning.proofs.Steps.{allowing-leaves}
use Rattle.meaning.proofs.Kept.{blank-good, allowing-good}
use Rattle.meaning.proofs.Answers.{settle-law}
use Rattle.meaning.proofs.Canonical.{canonical}
use Rattle.print.specs.Printed.{allows, replies_of}

abbrev row : ℕ → List ℕ → Row
row d l = record { denied = d; opens = l }

mem-first : (l k : List ℕ) (x : ℕ) → Mem x l → Mem x (l ++ k)
mem-first [] k x m = elim m [ ]
mem-first (y ∷ l) k x m = ⊎_elim (λ e. inl e) (λ q. inr (mem-first l k x q)) m

mem-behind : (l k : List ℕ) (x : ℕ) → Mem x k → Mem x (l ++ k)
mem-behind [] k x m = m
mem-behind (y ∷ l) k x m = inr (mem-behind l k x m)

ascending-first : (l k : List ℕ) → Ascending (l ++ k) → Ascending l
ascending-first [] k a = tt
ascending-first (x ∷ l) k a = ((λ y m. a.0 y (mem-first l k y m)), ascending-first l k a.1)

-- the first open sets of a good row
first_good : (n d : ℕ) (l k : List ℕ) → Good n (row d (l ++ k)) → Good n (row d l)
first_good n d l k g = record {
  denied-below = g.denied-below;
  below = λ o m. g.below o (mem-first l k o m);
  nonempty = λ o m. g.nonempty o (mem-first l k o m);
  apart-from-denied = λ o m. g.apart-from-denied o (mem-first l k o m);
  free = record {
    ascending = ascending-first l k g.free.ascending;
    no_part = λ o p m q t. g.free.no_part o p (mem-first l k o m) (mem-first l k p q) t;
  };
}

-- an open set of a good row is not denied
not-denied : (n : ℕ) (w : Row) (o : ℕ) → Good n w → Mem o w.opens → T (not (part_of o w.denied))
not-denied n w o g m = not_T (part_of o w.denied) (λ t.
    let r = some_in o (g.nonempty o m) in
    g.apart-from-denied o m (shares_at o w.denied r.0 r.1 ((part_of-law o w.denied).0 t r.0 r.1)))

-- the next open set, told as an allow reply
next_row : (n d : ℕ) (l : List ℕ) (x : ℕ) → Good n (row d (l ++ x ∷ [])) → allowing x (row d l) ≡ row d (l ++ x ∷ [])
next_row n d l x g =
    let last : Mem x (l ++ x ∷ []) = (mem-snoc l x x).1 (inr refl) in
    let g₀ = first_good n d l (x ∷ []) g in
    canonical n (allowing x (row d l)) (row d (l ++ x ∷ []))
    (allowing-good n (row d l) g₀ x (g.below x last) (not-denied n (row d (l ++ x ∷ [])) x g last)) g
    (λ h. (
      (λ m. let p = (allowing-leaves n x (row d l) h).0 m in record {
        holder = p.0.holder;
        denies = p.0.denies;
        meets = λ o q. ⊎_elim (λ r. p.0.meets o r) (λ e. subst⁻¹ (λ (y : ℕ). T (shares h y)) e p.1) ((mem-snoc l x o).0 q);
      }),
      λ m. (allowing-leaves n x (row d l) h).1 (
        record { holder = m.holder; denies = m.denies; meets = λ o q. m.meets o ((mem-snoc l x o).1 (inl q)) },
        m.meets x last,
      ),
    ))

-- the other open sets, told one after the other
pub allows-back : (n d : ℕ) (k l : List ℕ) → Good n (row d (l ++ k)) → length (l ++ k) ≤ most_opens → Recorded n (row d l) (allows k) × (row_after (row d l) (allows k) ≡ row d (l ++ k))
unfolding row_after step known roles_in contradicts
allows-back n d [] l g few = (tt, ap (row d) (sym (append-nil l)))
allows-back n d (x ∷ k) l g few =
    let e : (l ++ x ∷ []) ++ k ≡ l ++ x ∷ k = append_assoc l (x ∷ []) k in
    let g₁ : Good n (row d ((l ++ x ∷ []) ++ k)) = subst⁻¹ (λ (z : List ℕ). Good n (row d z)) e g in
    let few₁ : length ((l ++ x ∷ []) ++ k) ≤ most_opens = subst⁻¹ (λ (z : List ℕ). length z ≤ most_opens) e few in
    let g₂ = first_good n d (l ++ x ∷ []) k g₁ in
    let r = allows-back n d k (l ++ x ∷ []) g₁ few₁ in
    let s : allowing x (row d l) ≡ row d (l ++ x ∷ []) = next_row n d l x g₂ in
    let m : Mem x (l ++ x ∷ k) = mem-behind l (x ∷ k) x (inl refl) in
    let kn : T (part_of x (all_below n)) = (part_of-all_below n x).1 (g.below x m) in
    let few₂ : length (allowing x (row d l)).opens ≤ most_opens = subst⁻¹ (λ (v : Row). length v.opens ≤ most_opens) s (omega (arith, length-append (l ++ x ∷ []) k)) in (
      (
        kn,
        (settle-law n (Allow (record { bits = x })) (row d l) (first_good n d l (x ∷ k) g) kn).recorded.1 (not-denied n (row d (l ++ x ∷ k)) x g m, few₂),
        subst⁻¹ (λ (v : Row). Recorded n v (allows k)) s r.0,
      ),
      ap (λ (v : Row). row_after v (allows k)) s ∙ r.1 ∙ ap (row d) e,
    )

denied-alone : (d : ℕ) → denying d blank ≡ row d []
unfolding denying losing
denied-alone d = λ i. record { denied = whole i; opens = reduce-none i }
  where
    whole : joined 0 d ≡ d
    whole = set-ext (joined 0 d) d (λ r. ((λ m. ⊎_elim (λ q. absurd (in-empty r q)) (λ q. q) ((in-joined 0 d r).0 m)), (λ m. (in-joined 0 d r).1 (inr m))))

-- a good row, told again to a permission without one
pub told-again : (n : ℕ) (w : Row) → Good n w → length w.opens ≤ most_opens → Recorded n blank (replies_of w) × (row_after blank (replies_of w) ≡ w)
unfolding row_after step known roles_in contradicts has_part any
told-again n w g few = go (eqb w.denied 0) refl
  where
    go : (b : Bool) → eqb w.denied 0 ≡ b
        → Recorded n blank (cond b [] (Deny (record { bits = w.denied }) ∷ []) ++ allows w.opens) × (row_after blank (cond b [] (Deny (record { bits = w.denied }) ∷ []) ++ allows w.opens) ≡ w)
    go true e =
        let z : w.denied ≡ 0 = eqb→eq w.denied 0 (subst⁻¹ T e tt) in
        let r = allows-back n w.denied w.opens [] g few in
        subst (λ (d : ℕ). Recorded n (row d []) (allows w.opens) × (row_after (row d []) (allows w.opens) ≡ w)) z r
    go false e =
        let r = allows-back n w.denied w.opens [] g few in
        let s = denied-alone w.denied in
        let kn : T (part_of w.denied (all_below n)) = (part_of-all_below n w.denied).1 g.denied-below in
        let few₀ : length (denying w.denied blank).opens ≤ most_opens = subst⁻¹ (λ (v : Row). length v.opens ≤ most_opens) s (omega arith) in (
          (
            kn,
            (settle-law n (Deny (record { bits = w.denied })) blank (blank-good n) kn).recorded.1 (tt, few₀),
            subst⁻¹ (λ (v : Row). Recorded n v (allows w.opens)) s r.0,
          ),
          ap (λ (v : Row). row_after v (allows w.opens)) s ∙ r.1,
        )
