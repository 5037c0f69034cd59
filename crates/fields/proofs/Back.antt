-- What is written is read again: a number's w bytes spell the number, up to what w bytes hold. Assumes nothing.
use mathlib.Core.Path.{◌≡◌, refl, sym, ap, ap₂, ◌∙◌}
use mathlib.Core.List.{List, [], ◌∷◌, ◌++◌, map, append-nil}
use Prim.Native.Nat.{ℕ, zero, suc, ◌*◌, ◌/◌, ◌%◌, ◌^◌, ◌<◌}
use native.Mathlib.Nat.{mod-lt, one-le-pow, pow-succ'}
use native.Mathlib.Omega.{arith}
use lib.ListN.{length}
use Rattle.rule.specs.Lists.{first_parts, parts_of, for_each}
use Rattle.rule.proofs.Lists.{for_each-length, parts_back}
use Rattle.fields.specs.Fields.{little_endian, fields_of, words_of, bytes_of}
use Rattle.fields.proofs.Writing.{bytes_wide, low-bytes}

below : (w n : ℕ) → n < 256 ^ w → little_endian (bytes_of w n) ≡ n
unfolding little_endian bytes_of
below zero n h = omega arith
below (suc w) n h =
    let g : n < 256 * 256 ^ w = rw (← pow-succ' 256 w) h in
    let e = below w (n / 256) (omega arith) in
    omega (arith, e)

pub spelled_back : (w n : ℕ) → little_endian (bytes_of w n) ≡ n % 256 ^ w
spelled_back w n = ap little_endian (sym (low-bytes w n)) ∙ below w (n % 256 ^ w) (mod-lt n (let h : 0 < 256 = omega arith in one-le-pow w 256 h))

each_back : (w : ℕ) (ns : List ℕ) → map little_endian (map (bytes_of w) ns) ≡ map (λ n. n % 256 ^ w) ns
each_back w [] = refl
each_back w (n ∷ ns) = ap₂ (λ m ms. m ∷ ms) (spelled_back w n) (each_back w ns)

pub fields_back : (w : ℕ) (ns rest : List ℕ) → map little_endian (first_parts w (length ns) (for_each (bytes_of w) ns ++ rest)) ≡ map (λ n. n % 256 ^ w) ns
fields_back w ns rest = ap (map little_endian) (parts_back (bytes_of w) w (bytes_wide w) ns rest) ∙ each_back w ns

pub words_back : (ns : List ℕ) → words_of (for_each (bytes_of 4) ns) ≡ map (λ n. n % 0x1_0000_0000) ns
unfolding words_of fields_of parts_of
words_back ns =
    let h : length (for_each (bytes_of 4) ns) / 4 ≡ length ns = rw (for_each-length (bytes_of 4) 4 (bytes_wide 4) ns) (omega arith) in
    rw h (ap (λ l. map little_endian (first_parts 4 (length ns) l)) (sym (append-nil (for_each (bytes_of 4) ns))) ∙ fields_back 4 ns [])
