-- A table written into lent bytes: its contents tested and written byte by byte, and a name behind it. Assumes nothing.
use mathlib.Core.Path.{◌≡◌, refl, sym, ap, ap₂, ◌∙◌}
use mathlib.Core.Bool.{◌&&◌}
use mathlib.Core.List.{List, [], ◌∷◌, ◌++◌}
use Prim.Native.Nat.{ℕ, suc, ◌+◌, ◌-◌, ◌*◌, ◌/◌, ◌%◌, ◌≤◌, ◌<◌}
use native.Mathlib.Decide.{ℕ_discrete}
use native.Mathlib.Omega.{arith}
use borrow.Author.Tests.{eq-eqb, ne_eqb}
use borrow.Rule.Slice.PartMut.{put_mid}
use lib.Dec.{eqb}
use lib.ListN.{length, take, drop, get_or, set, take-append-drop}
use lib.Seq.{sets, sets-eq, length-sets, length-take-le, take-set-lt, drop-set-lt, drop-drop}
use Rattle.std.specs.Int.{w16, to_le_bytes}
use Rattle.std.proofs.lemmas.List.{append_assoc}
use Rattle.roles.specs.Sets.{most_roles}
use Rattle.text.specs.Write.{Wrote}
use Rattle.text.proofs.WriteLaws.{wrote_then, in-front}
use Rattle.names.specs.Names.{contents_bytes, length_of}
use Rattle.listing.specs.Listing.{pair_bytes, named}
use Rattle.listing.proofs.NamedLaws.{drop-sets}

-- ---- a pair tested, and written

zero-half : (a b : ℕ) → (eqb a 0 && eqb b 0) ≡ eqb (a + 256 * b) 0
zero-half a b = go (ℕ_discrete a 0) (ℕ_discrete b 0)
  where
    go : Dec (a ≡ 0) → Dec (b ≡ 0) → (eqb a 0 && eqb b 0) ≡ eqb (a + 256 * b) 0
    go (yes p) (yes q) = rw (eq-eqb a 0 p, eq-eqb b 0 q) (sym (eq-eqb (a + 256 * b) 0 (omega arith)))
    go (yes p) (no q) = rw (eq-eqb a 0 p, ne_eqb b 0 q) (sym (ne_eqb (a + 256 * b) 0 (λ e. q (omega arith))))
    go (no p) q = rw (ne_eqb a 0 p) (sym (ne_eqb (a + 256 * b) 0 (λ e. p (omega arith))))

pub free-is : (t : List ℕ) (r : ℕ) → (eqb (get_or t (r * 4 + 2) 0) 0 && eqb (get_or t (r * 4 + 2 + 1) 0) 0) ≡ eqb (length_of t r) 0
unfolding length_of
free-is t r = zero-half (get_or t (r * 4 + 2) 0) (get_or t (r * 4 + 2 + 1) 0)

-- bytes put in the place of as many
put-sets : (l s : List ℕ) (at k : ℕ) → at + k ≤ length l → length s ≡ k → put_mid at k l s ≡ sets l at s
put-sets l s at k h e =
    ap (λ (r : List ℕ). take at l ++ (s ++ r)) (drop-drop k at l ∙ ap (λ (n : ℕ). drop (at + n) l) (sym e))
    ∙ sym (sets-eq s l at (omega arith) ∙ append_assoc (take at l) s (drop (at + length s) l))

half-bytes : (n : ℕ) → n ≤ 65535 → to_le_bytes w16 n ≡ n % 256 ∷ n / 256 ∷ []
half-bytes n h = ap₂ (λ (a b : ℕ). a ∷ b ∷ []) (omega arith) (omega arith)

pub pair-put : (d : List ℕ) (k start n : ℕ) → k + 4 ≤ length d → start ≤ 65535 → n ≤ 65535 → {x y : List ℕ} → x ≡ to_le_bytes w16 start → y ≡ to_le_bytes w16 n
    → put_mid (k + 2) (k + 4 - (k + 2)) (put_mid k (k + 2 - k) d x) y ≡ sets d k (pair_bytes start n)
pair-put d k start n room hs hn {x} {y} p q =
    let e : k + 2 ≡ suc (suc k) = omega arith in
    let u : x ≡ start % 256 ∷ start / 256 ∷ [] = p ∙ half-bytes start hs in
    let v : y ≡ n % 256 ∷ n / 256 ∷ [] = q ∙ half-bytes n hn in
    let first : put_mid k (k + 2 - k) d x ≡ sets d k x = put-sets d x k (k + 2 - k) (omega arith) (ap length u ∙ omega arith) in
    put-sets (put_mid k (k + 2 - k) d x) y (k + 2) (k + 4 - (k + 2)) (omega (arith, ap length first, length-sets d k x)) (ap length v ∙ omega arith)
    ∙ ap (λ (m : List ℕ). sets m (k + 2) y) first
    ∙ ap₂ (λ (a b : List ℕ). sets (sets d k a) (k + 2) b) u v
    ∙ rw e refl

-- ---- a table at the start of lent bytes

-- a longer one over it
pub sets_over : (d t u : List ℕ) → length t ≤ length u → length u ≤ length d → sets (sets d 0 t) 0 u ≡ sets d 0 u
sets_over d t u h k =
    let m = length-sets d 0 t in
    in-front u (sets d 0 t) (omega arith) ∙ ap (λ (x : List ℕ). u ++ x) behind ∙ sym (in-front u d k)
  where
    behind : drop (length u) (sets d 0 t) ≡ drop (length u) d
    behind = drop-sets t d 0 (length u) (omega arith)

-- the contents of a table, written where it stands
sets-part : (vs d : List ℕ) (k n : ℕ) → k + length vs ≤ n → sets (take n d) k vs ++ drop n d ≡ sets d k vs
sets-part [] d k n h = take-append-drop n d
sets-part (v ∷ vs) d k n h =
    ap (λ (x : List ℕ). sets x (suc k) vs ++ drop n d) (sym (take-set-lt n d k v (omega arith)))
    ∙ ap (λ (x : List ℕ). sets (take n (set d k v)) (suc k) vs ++ x) (sym (drop-set-lt n d k v (omega arith)))
    ∙ sets-part vs (set d k v) (suc k) n (omega arith)

module _ (d name : List ℕ) (bytes r : ℕ) (long : contents_bytes ≤ bytes) (h : r < most_roles) (room : bytes + length name ≤ length d) where
  -- its pair, then the name
  pair-written : (e : List ℕ) → e ≡ sets d (r * 4) (pair_bytes bytes (length name)) → Wrote d 0 (sets (take bytes d) (r * 4) (pair_bytes bytes (length name))) e bytes
  pair-written e q =
      let x : List ℕ = sets (take bytes d) (r * 4) (pair_bytes bytes (length name)) in
      let m : length x ≡ bytes = length-sets (take bytes d) (r * 4) (pair_bytes bytes (length name)) ∙ length-take-le bytes d (omega arith) in
      record {
        bytes =
            q
            ∙ sym (sets-part (pair_bytes bytes (length name)) d (r * 4) bytes (omega arith))
            ∙ ap (λ (k : ℕ). x ++ drop k d) (sym m)
            ∙ sym (in-front x d (omega arith));
        next = omega arith;
      }

  pub name-written : {e f : List ℕ} {p : ℕ} → e ≡ sets d (r * 4) (pair_bytes bytes (length name)) → Wrote e bytes name f p → Wrote d 0 (named (take bytes d) r name) f p
  unfolding named
  name-written {e} {f} {p} q w = rw (length-take-le bytes d (omega arith)) (wrote_then (pair-written e q) w)
