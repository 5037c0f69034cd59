-- The bytes of a number in a lent list. Assumes nothing.
use mathlib.Core.Path.{◌≡◌, refl, sym, ap, ap₂, ◌∙◌}
use mathlib.Core.List.{List, [], ◌∷◌, ◌++◌}
use Prim.Native.Nat.{ℕ, zero, suc, ◌+◌, ◌-◌, ◌*◌, ◌/◌, ◌%◌, ◌^◌, ◌≤◌, ◌<◌}
use native.Mathlib.Nat.{zero-add, suc-add, le_of_lt, le_trans, mul_assoc, mul-zero, mul-suc, mul-le-mul_left, mod-add-div, mul_comm, div-one, le-div_iff_mul-le, div-lt_iff_lt-mul, div-div-eq-div-mul, pow-zero, pow-suc, pow-succ'}
use native.Mathlib.Omega.{arith}
use borrow.Rule.Slice.PartMut.{mid_of, put_mid}
use lib.ListN.{length, get_or, take, drop}
use Rattle.std.specs.Int.{byte_at, bytes_low_first}
use Rattle.rule.specs.Lists.{for_each, replaced, filled}
use Rattle.rule.proofs.Lists.{Written, same, more, no_room, all-filled, replaced-length, replaced_twice, filled_is, filled-replaced, part_filled}
use Rattle.fields.specs.Fields.{bytes_of}
pub use Rattle.fields.specs.Wide.{bytes_wide, double_wide}

-- what is above them does not change them
higher : (w n k : ℕ) → bytes_of w (n + 256 ^ w * k) ≡ bytes_of w n
unfolding bytes_of
higher zero n k = refl
higher (suc w) n k =
    let e : n + 256 ^ suc w * k ≡ n + 256 * (256 ^ w * k) = rw (pow-succ' 256 w, mul_assoc 256 (256 ^ w) k) in
    let m : (n + 256 * (256 ^ w * k)) % 256 ≡ n % 256 = omega arith in
    let d : (n + 256 * (256 ^ w * k)) / 256 ≡ n / 256 + 256 ^ w * k = omega arith in
    rw (e, m, d, higher w (n / 256) k)

pub low-bytes : (w n : ℕ) → bytes_of w (n % 256 ^ w) ≡ bytes_of w n
low-bytes w n = sym (higher w (n % 256 ^ w) (n / 256 ^ w)) ∙ ap (bytes_of w) (mod-add-div n (256 ^ w))

-- as the library puts a number into bytes
pub low_first : (i k n : ℕ) → bytes_low_first i k n ≡ bytes_of k (n / 256 ^ i)
unfolding bytes_of
low_first i zero n = refl
low_first i (suc k) n = ap₂ (λ b bs. b ∷ bs) (byte i) (low_first (suc i) k n ∙ ap (bytes_of k) (rw (pow-suc 256 i, div-div-eq-div-mul n (256 ^ i) 256)))
  where
    byte : (i : ℕ) → byte_at i n ≡ n / 256 ^ i % 256
    byte zero = rw (pow-zero 256, div-one n)
    byte (suc i) = refl

-- ---- a number's bytes

-- by the library's bytes
pub low_put : (w n : ℕ) (old : List ℕ) {bytes part : List ℕ} → bytes ≡ bytes_low_first 0 w n → part ≡ filled bytes old → part ≡ filled (bytes_of w n) old
low_put w n old e f = f ∙ ap (λ bs. filled bs old) (e ∙ low_first 0 w n ∙ rw (pow-zero 256, div-one n))

-- ---- lists one after the other from the front of a lent list, each into its own part

module _ {A : Type 0} (entry : List A) where
  -- these are laid over its front, and the rest is as it was
  pub record Laid (xs s : List A) : Type 0 where
    pub is : s ≡ replaced 0 xs entry

  pub laid_none : Laid [] entry
  unfolding replaced
  laid_none = record { is = refl }

  module _ {xs s : List A} (k : Laid xs s) (room : length xs ≤ length entry) where
    pub laid_length : length s ≡ length entry
    laid_length = ap length k.is ∙ replaced-length 0 xs entry (rw (zero-add (length xs)) room)

    pub laid_all : s ≡ filled xs entry
    laid_all = k.is ∙ filled-replaced xs entry room

    pub laid_more : {part : List A} (at end : ℕ) (ys : List A) → length xs ≡ at → at + length ys ≡ end → end ≤ length entry → part ≡ filled ys (mid_of at (end - at) s)
        → Laid (xs ++ ys) (put_mid at (end - at) s part)
    laid_more {part} at end ys e f g p =
        record {
          is =
              part_filled at end ys s f (rw laid_length g) p
              ∙ ap (replaced at ys) k.is
              ∙ ap (λ j. replaced j ys (replaced 0 xs entry)) (sym e ∙ sym (zero-add (length xs)))
              ∙ replaced_twice 0 xs ys entry (rw (zero-add (length xs)) room);
        }

-- ---- each element's bytes, w places each

module _ {A : Type 0} (write : A → List ℕ) (w : ℕ) (l : List A) (entry : List ℕ) where
  -- the lent list after the first i elements
  unfoldable pub put_after : ℕ → List ℕ
  put_after i = for_each write (take i l) ++ drop (w * i) entry

  pub put_none : put_after 0 ≡ entry
  unfolding put_after for_each
  put_none = rw (mul-zero w)

  module _ (wide : (a : A) → length (write a) ≡ w) (p : 0 < w) where
    pub put_no_room : length entry / w < length l → entry ≡ filled (for_each write l) entry
    put_no_room h = no_room write w wide l entry refl (rw (mul_comm w (length l)) ((div-lt_iff_lt-mul p).0 h))

    module _ (tested : length l ≤ length entry / w) where
      room : w * length l ≤ length entry
      room = rw (mul_comm w (length l)) ((le-div_iff_mul-le p).0 tested)

      pub put_more : {i : ℕ} {a : A} {s part : List ℕ} → i < length l → a ≡ get_or l i a → s ≡ put_after i
          → part ≡ filled (write a) (mid_of (w * i) (w * i + w - w * i) s) → put_mid (w * i) (w * i + w - w * i) s part ≡ put_after (i + 1)
      unfolding put_after
      put_more {i} {a} {s} {part} h is e f =
          let k : Written write w wide l entry i s = record { is = e } in
          let inside : w * i + w ≤ length s =
          let g : w * i + w ≡ w * suc i = sym (mul-suc w i) in
          let m : w * suc i ≤ w * length l = mul-le-mul_left w h in
          rw (g, same write w wide l entry refl (le_of_lt h) room k) (le_trans m room)
          in
          (more write w wide l entry refl a h k is (part_filled (w * i) (w * i + w) (write a) s (ap (λ j. w * i + j) (wide a)) inside f)).is

      pub put_all : {i : ℕ} → i ≤ length l → length l ≤ i → put_after i ≡ filled (for_each write l) entry
      unfolding put_after
      put_all h g = all-filled write w wide l entry refl h g room (record { is = refl })

-- a list copied to the front
pub front_filled : {A : Type 0} (xs l : List A) {copy : List A} → copy ≡ xs → length xs ≤ length l → copy ++ drop (length xs) l ≡ filled xs l
front_filled xs l e h = ap (λ c. c ++ drop (length xs) l) e ∙ sym (filled_is xs l h)

-- the lower bytes, then the higher
pub bytes_add : (v w n : ℕ) → bytes_of (v + w) n ≡ bytes_of v n ++ bytes_of w (n / 256 ^ v)
unfolding bytes_of
bytes_add zero w n = rw (zero-add w, pow-zero 256, div-one n)
bytes_add (suc v) w n = rw (suc-add v w, bytes_add v w (n / 256), div-div-eq-div-mul n 256 (256 ^ v), pow-succ' 256 v)
