-- A record of options from before the ratio is read as the one of 40 bytes that begins with it and has ratio 1. Assumes nothing.
use mathlib.Core.Path.{◌≡◌, refl, sym, ◌∙◌}
use mathlib.Core.List.{List, [], ◌∷◌, ◌++◌}
use Prim.Native.Nat.{ℕ}
use native.Mathlib.Omega.{arith}
use borrow.Author.Tests.{eq-eqb, ne_eqb}
use lib.ListN.{length, length-append}
use lib.Ieee.{binary64, of_bits, to_bits}
use Rattle.numbers.specs.Constants.{one}
use Rattle.fields.specs.Fields.{little_endian, bytes_of, double_bytes}
use Rattle.fields.specs.Packing.{unpacked}
use Rattle.fields.proofs.Writing.{double_wide}
use Rattle.fields.proofs.Packing.{unpacked-append}
use Rattle.records.specs.Options.{short_layout, options_layout, layout_by, fields_in, options_sound, ratio_from, options_from, options_formed, options_of, completed}
use Rattle.records.proofs.Placed.{short_size}
use Rattle.records.proofs.Formed.{short_sized, long_sized}

-- 1, as it stands in the field
one-bits : unpacked (8 ∷ []) (double_bytes one) ≡ to_bits binary64 one ∷ []
unfolding unpacked double_bytes bytes_of little_endian of_bits to_bits
one-bits = refl

module _ (l : List ℕ) (size : length l ≡ 32) where
  pub completed_size : length (completed l) ≡ 40
  unfolding completed
  completed_size = length-append l (double_bytes one) ∙ rw (size, double_wide one)

  longer : length (completed l) ≡ 32 → ⊥
  longer e = let k = completed_size in omega (arith, e, k)

  pub short_fields : fields_in l ≡ unpacked short_layout l
  unfolding fields_in layout_by
  short_fields = rw (short_size, eq-eqb (length l) 32 size)

  long_fields : fields_in (completed l) ≡ unpacked short_layout l ++ (to_bits binary64 one ∷ [])
  unfolding fields_in layout_by options_layout completed
  long_fields =
      rw (short_size, ne_eqb (length (l ++ double_bytes one)) 32 longer)
      (unpacked-append short_layout (8 ∷ []) l (double_bytes one) (size ∙ sym short_size) ∙ rw one-bits)

  pub short_formed : options_formed l ≡ options_formed (completed l)
  unfolding options_formed options_sound unpacked short_layout
  short_formed = rw (← short_sized (length l) size, ← long_sized (length (completed l)) longer, completed_size, short_fields, long_fields)

  pub short_sound : options_formed l ≡ options_sound (unpacked short_layout l)
  unfolding options_formed
  short_sound = rw (← short_sized (length l) size, short_fields)

  pub short_options : options_of l ≡ options_of (completed l)
  unfolding options_of options_from ratio_from unpacked short_layout of_bits to_bits
  short_options = rw (short_fields, long_fields)
