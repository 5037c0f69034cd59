-- What is stored to a lent list and written into its parts; and w places for each element of a list, from the front on. Assumes nothing.
use Rattle.std.proofs.Common.{◌≡◌, ℕ, ◌+◌, ◌-◌, ◌*◌, ◌<◌, ◌≤◌, suc, List, length, get_or, take, drop, append_assoc, sym, ap, refl, ◌∙◌, ◌++◌, arith}
use Rattle.std.proofs.lemmas.List.{take-append-le, drop-append-le, replicate-append-replicate}
use mathlib.Core.List.{append-nil}
use native.Mathlib.Nat.{le_of_lt}
use lib.ListN.{replicate, length-append, length-replicate, drop_of_length-le}
use borrow.Rule.Slice.PartMut.{put_mid}
use lib.Seq.{sets, sets-eq, take-length, take_at}
use Rattle.rule.specs.Lists.{for_each, replaced}
use Rattle.rule.proofs.Lists.{Written, none, same, more, part_replaced, replaced-length, replaced_twice}

-- stored one after the other, from place k on
pub stored : {B : Type 0} (xs s : List B) (k : ℕ) → k + length xs ≤ length s → sets s k xs ≡ replaced k xs s
unfolding replaced
stored xs s k h = sets-eq xs s k h ∙ append_assoc (take k s) xs (drop (k + length xs) s)

-- the places behind k, as they are stored to
pub two_on : (k : ℕ) → k + 2 ≡ suc (suc k)
two_on k = omega arith

pub three_on : (k : ℕ) → k + 3 ≡ suc (suc (suc k))
three_on k = omega arith

-- a row that is cleared and stored to: xs from place k on, within its first m places, and ys behind them
module _ {B : Type 0} (m k : ℕ) (xs ys : List B) (nil : B) (within : k + length xs ≤ m) where
  abbrev Front : List B
  Front = replicate m nil

  abbrev Back : List B
  Back = replicate (length ys) nil

  front_stored : sets (Front ++ Back) k xs ≡ replaced k xs Front ++ Back
  unfolding replaced
  front_stored =
      let long : length Front ≡ m = length-replicate m nil in
      stored xs (Front ++ Back) k (rw length-append (omega (arith, within, long)))
      ∙ rw (take-append-le k Front Back (omega (arith, within, long)), drop-append-le (k + length xs) Front Back (omega (arith, within, long)), append_assoc, append_assoc)

  back_stored : (front : List B) → length front ≡ m → sets (front ++ Back) m ys ≡ front ++ ys
  unfolding replaced
  back_stored front long =
      let all : length (front ++ Back) ≡ m + length ys = rw (length-append, length-replicate (length ys) nil, long) in
      stored ys (front ++ Back) m (omega (arith, all))
      ∙ rw (take_at front Back m long, drop_of_length-le (front ++ Back) {i = m + length ys} (omega (arith, all)), append-nil ys)

  pub row_stored : sets (sets (replicate (m + length ys) nil) k xs) m ys ≡ replaced k xs Front ++ ys
  row_stored =
      rw (← replicate-append-replicate m (length ys) nil, front_stored)
      (back_stored (replaced k xs Front) (replaced-length k xs Front (rw (length-replicate m nil) within) ∙ length-replicate m nil))

-- two parts that are lent one after the other, w places each, from place k on
module _ {B : Type 0} (k w : ℕ) (xs ys s : List B) (x_wide : length xs ≡ w) (y_wide : length ys ≡ w) (room : k + w + w ≤ length s) where
  pub two_parts : put_mid (k + w) (k + w + w - (k + w)) (put_mid k (k + w - k) s xs) ys ≡ replaced k (xs ++ ys) s
  two_parts =
      let first : k + length xs ≡ k + w = ap (λ n. k + n) x_wide in
      let second : k + w + length ys ≡ k + w + w = ap (λ n. k + w + n) y_wide in
      rw (part_replaced k (k + w) xs s first)
      (part_replaced (k + w) (k + w + w) ys (replaced k xs s) second
      ∙ ap (λ n. replaced n ys (replaced k xs s)) (sym first)
      ∙ replaced_twice k xs ys s (omega (arith, first, room)))

module _ {A B : Type 0} (write : A → List B) (w : ℕ) (l : List A) (entry : List B) where
  -- the lent list after the first i elements
  unfoldable pub written : ℕ → List B
  written i = for_each write (take i l) ++ drop (w * i) entry

  pub written_all : for_each write l ++ drop (w * length l) entry ≡ written (length l)
  unfolding written
  written_all = rw (take-length l)

  module _ (wide : (a : A) → length (write a) ≡ w) where
    abbrev So : ℕ → List B → Type 0
    So i s = Written write w wide l entry i s

    so_far : (i : ℕ) → So i (written i)
    unfolding written
    so_far i = record { is = refl }

    is : (i : ℕ) {s : List B} → So i s → written i ≡ s
    unfolding written
    is i k = sym k.is

    pub written_none : written 0 ≡ entry
    written_none = is 0 (none write w wide l entry)

    pub written_long : (i : ℕ) → i < length l → w * length l ≤ length entry → length (written i) ≡ length entry
    written_long i h room = same write w wide l entry refl (le_of_lt h) room (so_far i)

    -- element i, by whatever reads it
    pub written_more : (d : A) (at : ℕ → A) → ((i : ℕ) → get_or l i d ≡ at i) → (i : ℕ) → i < length l → written (i + 1) ≡ replaced (w * i) (write (at i)) (written i)
    written_more d at read i h = is (i + 1) (more write w wide l entry refl d h (so_far i) (sym (read i)) refl)
