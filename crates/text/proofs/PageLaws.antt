-- Texts added to a page one behind the other, and the room that is left for the next. Assumes nothing.
use mathlib.Core.Path.{◌≡◌, refl, ◌∙◌}
use mathlib.Core.List.{List, [], ◌++◌}
use Prim.Native.Nat.{ℕ}
use native.Mathlib.Omega.{arith}
use lib.ListN.{length-append}
use Rattle.text.specs.declared.Page.{Page}
use Rattle.text.specs.Page.{Room, Adds}
use Rattle.text.specs.Write.{Wrote}
use Rattle.text.proofs.WriteLaws.{wrote_nothing, wrote_then, wrote-length, wrote-room, Left, left-start, left_end, left-next}

pub adds : {p q : Page} {t : List ℕ} → q.out.ghost_name ≡ p.out.ghost_name → Wrote p.out.now p.at t q.out.now q.at → Adds p t q
adds b w = record { same_buffer = b; same_length = wrote-length w; wrote = w }

pub adds_nothing : (p : Page) → Adds p [] p
adds_nothing p = adds refl (wrote_nothing p.out.now p.at)

pub adds_then : {p q r : Page} {t u : List ℕ} → Adds p t q → Adds q u r → Adds p (t ++ u) r
adds_then a b = adds (b.same_buffer ∙ a.same_buffer) (wrote_then a.wrote b.wrote)

pub room-next : {p q : Page} {t : List ℕ} → Adds p t q → (u : List ℕ) → Room p (t ++ u) → Room q u
room-next a u h = wrote-room a.wrote u h

-- a page made of a buffer, a text added to it, and the buffer afterwards
pub on-buffer : {p q : Page} {d e t : List ℕ} {at : ℕ} → p.out.now ≡ d → p.at ≡ at → Adds p t q → e ≡ q.out.now → Wrote d at t e q.at
on-buffer b s a same = rw (← b, ← s, same) a.wrote

-- ---- a text added part by part

-- adding u to q finishes adding t to p, and there is room for it
pub record Finishes (p : Page) (t : List ℕ) (q : Page) (u : List ℕ) : Type 0 where
  pub same_buffer : q.out.ghost_name ≡ p.out.ghost_name
  pub room : Room q u
  pub left : Left p.out.now p.at t q.out.now q.at u

pub finishes-start : (p : Page) (t : List ℕ) → Room p t → Finishes p t p t
finishes-start p t h = record { same_buffer = refl; room = h; left = left-start p.out.now p.at t }

module _ {p q : Page} {t : List ℕ} where
  pub finishes_end : Finishes p t q [] → Adds p t q
  finishes_end f = adds f.same_buffer (left_end f.left)

  module _ {x : List ℕ} (v u : List ℕ) (f : Finishes p t q x) (c : x ≡ v ++ u) where
    -- it has room for the next part
    pub finishes-room : Room q v
    finishes-room = let h : Room q (v ++ u) = rw (← c) f.room in omega (arith, h, length-append v u)

    pub finishes-next : {r : Page} → Adds q v r → Finishes p t r u
    finishes-next a = record {
      same_buffer = a.same_buffer ∙ f.same_buffer;
      room = room-next a u (rw (← c) f.room);
      left = left-next f.left c a.wrote;
    }
