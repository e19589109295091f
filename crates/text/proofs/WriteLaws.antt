-- Texts written one behind the other, and those of numbers and sets so written. Assumes nothing.
use mathlib.Core.Path.{◌≡◌, refl, sym, ap, ◌∙◌}
use mathlib.Core.Bool.{Bool, true, false}
use mathlib.Core.List.{List, [], ◌∷◌, ◌++◌, append_assoc}
use Prim.Native.Nat.{ℕ, suc, ◌+◌, ◌-◌, ◌/◌, ◌%◌, ◌≤◌, ◌<◌}
use native.Mathlib.Nat.{zero-add, add-zero, add-suc, suc-add}
use native.Mathlib.Omega.{arith}
use borrow.Rule.Slice.PartMut.{put_mid}
use lib.Dec.{eqb}
use lib.ListN.{length, take, drop, set, length-append}
use lib.Seq.{sets, length-sets, sets-eq, take-append_seam, drop-append_seam, drop-drop}
use Rattle.roles.specs.Sets.{roles_of}
use Rattle.text.specs.Ascii.{digit_zero, comma, minus}
use Rattle.text.specs.Number.{number_text}
use Rattle.text.specs.Set.{role_text, roles_text, set_text}
use Rattle.text.specs.Write.{Wrote}
use Rattle.text.proofs.NumberLaws.{text-small, text-step}

-- ---- one text behind the other

sets-append : (t u d : List ℕ) (at : ℕ) → sets (sets d at t) (at + length t) u ≡ sets d at (t ++ u)
sets-append [] u d at = ap (λ (k : ℕ). sets d k u) (add-zero at)
sets-append (a ∷ t) u d at =
    ap (λ (k : ℕ). sets (sets (set d at a) (suc at) t) k u) (add-suc at (length t) ∙ sym (suc-add at (length t)))
    ∙ sets-append t u (set d at a) (suc at)

pub wrote_one : (d : List ℕ) (at c : ℕ) → Wrote d at (c ∷ []) (set d at c) (at + 1)
wrote_one d at c = record { bytes = refl; next = refl }

module _ {d : List ℕ} {at : ℕ} {t e : List ℕ} {p : ℕ} where
  pub wrote-length : Wrote d at t e p → length e ≡ length d
  wrote-length w = ap length w.bytes ∙ length-sets d at t

  pub wrote_then : {u f : List ℕ} {q : ℕ} → Wrote d at t e p → Wrote e p u f q → Wrote d at (t ++ u) f q
  wrote_then {u} {f} {q} w v = record {
    bytes = v.bytes ∙ rw (w.bytes, w.next) (sets-append t u d at);
    next = v.next ∙ rw (w.next, length-append t u) (omega arith);
  }

-- ---- a text from the first byte on

module _ (t d : List ℕ) (room : length t ≤ length d) where
  pub in-front : sets d 0 t ≡ t ++ drop (length t) d
  in-front = sets-eq t d 0 (omega (arith, room)) ∙ ap (λ (k : ℕ). t ++ drop k d) (zero-add (length t))

  pub front-text : take (length t) (sets d 0 t) ≡ t
  front-text = ap (take (length t)) in-front ∙ take-append_seam t (drop (length t) d)

  pub front-behind : drop (length t) (sets d 0 t) ≡ drop (length t) d
  front-behind = ap (drop (length t)) in-front ∙ drop-append_seam t (drop (length t) d)

-- ---- what is written after each part, and the room that is left for the next

pub wrote_nothing : (d : List ℕ) (at : ℕ) → Wrote d at [] d at
wrote_nothing d at = record { bytes = refl; next = sym (add-zero at) }

pub room-first : (at : ℕ) (t u : List ℕ) {n : ℕ} → at + length (t ++ u) ≤ n → at + length t ≤ n
room-first at t u h = omega (arith, length-append t u)

pub wrote-room : {d : List ℕ} {at : ℕ} {t e : List ℕ} {p : ℕ} → Wrote d at t e p → (u : List ℕ) → at + length (t ++ u) ≤ length d → p + length u ≤ length e
wrote-room {t = t} w u h = omega (arith, length-append t u, wrote-length w, w.next)

-- ---- a text written part by part

-- writing u into e from the place p on finishes writing t into d from the place `at` on
pub record Left (d : List ℕ) (at : ℕ) (t : List ℕ) (e : List ℕ) (p : ℕ) (u : List ℕ) : Type 0 where
  pub bytes : sets e p u ≡ sets d at t
  pub next : p + length u ≡ at + length t
  pub same : length e ≡ length d

pub left-start : (d : List ℕ) (at : ℕ) (t : List ℕ) → Left d at t d at t
left-start d at t = record { bytes = refl; next = refl; same = refl }

module _ {d : List ℕ} {at : ℕ} {t e : List ℕ} {p : ℕ} where
  pub left_end : Left d at t e p [] → Wrote d at t e p
  left_end l = record { bytes = l.bytes; next = sym (add-zero p) ∙ l.next }

  -- the next part is written
  pub left-next : {x v u f : List ℕ} {q : ℕ} → Left d at t e p x → x ≡ v ++ u → Wrote e p v f q → Left d at t f q u
  left-next {x} {v} {u} {f} {q} l c w = record {
    bytes = rw (w.bytes, w.next) (sets-append v u e p) ∙ ap (sets e p) (sym c) ∙ l.bytes;
    next = rw w.next (let n = l.next in let m = ap length c ∙ length-append v u in omega arith);
    same = wrote-length w ∙ l.same;
  }

  -- it has room where the whole has
  pub left-room : {x : List ℕ} (v u : List ℕ) → Left d at t e p x → x ≡ v ++ u → at + length t ≤ length d → p + length v ≤ length e
  left-room {x} v u l c h = let n = l.next in let m = ap length c ∙ length-append v u in let k = l.same in omega arith

-- ---- bytes, copied

-- bytes that stand for the part of d from the place `at` on
pub wrote_part : (d t e : List ℕ) (at : ℕ) → at + length t ≤ length d → e ≡ t → Wrote d at t (put_mid at (at + length t - at) d e) (at + length t)
wrote_part d t e at h same =
    let n : at + length t - at ≡ length t = omega arith in
    record { bytes = rw (sets-eq t d at h, n, same, append_assoc, drop-drop) refl; next = refl }

-- ---- a number

pub write-small : (d : List ℕ) (at v : ℕ) → v < 10 → Wrote d at (number_text v) (set d at (digit_zero + v % 10)) (at + 1)
write-small d at v h = let e : v % 10 ≡ v = omega arith in rw (text-small v h, e) (wrote_one d at (digit_zero + v))

pub write_step : (d e : List ℕ) (at v p : ℕ) → 10 ≤ v → Wrote d at (number_text (v / 10)) e p → Wrote d at (number_text v) (set e p (digit_zero + v % 10)) (p + 1)
write_step d e at v p h w = rw (text-step v h) (wrote_then w (wrote_one e p (digit_zero + v % 10)))

pub length-small : (v : ℕ) → v < 10 → length (number_text v) ≡ 1
length-small v h = rw (text-small v h) refl

pub length-step : (v : ℕ) → 10 ≤ v → length (number_text v) ≡ length (number_text (v / 10)) + 1
length-step v h = rw (text-step v h, length-append (number_text (v / 10)) ((digit_zero + v % 10) ∷ [])) refl

-- ---- a set

pub later-text : (later : Bool) (r : ℕ) → later ≡ true → role_text later r ≡ comma ∷ number_text r
unfolding role_text
later-text later r e = rw e refl

pub first-text : (later : Bool) (r : ℕ) → later ≡ false → role_text later r ≡ number_text r
unfolding role_text
first-text later r e = rw e refl

pub empty-text : (s : ℕ) → eqb s 0 ≡ true → set_text s ≡ minus ∷ []
unfolding set_text
empty-text s e = rw e refl

pub full-text : (s : ℕ) {l : List ℕ} → eqb s 0 ≡ false → l ≡ roles_of s → set_text s ≡ roles_text false l
unfolding set_text
full-text s n e = rw (n, e) refl

pub next-text : (later : Bool) {r : ℕ} {l m : List ℕ} → l ≡ r ∷ m → roles_text later l ≡ role_text later r ++ roles_text true m
unfolding roles_text
next-text later e = rw e refl

pub no-text : (later : Bool) {l : List ℕ} → l ≡ [] → roles_text later l ≡ []
unfolding roles_text
no-text later e = rw e refl
