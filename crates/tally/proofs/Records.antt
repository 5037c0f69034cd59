-- The scores of what a reader gave, record by record. Assumes nothing.
use Rattle.std.proofs.Common.{arith, ◌≡◌, ℕ, ◌≤◌, ◌<◌, zero-le, Bool, false, List, [], ◌++◌, length, take, Option, Some, None, sym, ap, subst, ◌∙◌, append-nil}
use Rattle.std.specs.Io.KnownBytes.{Consumes}
use Rattle.std.proofs.KnownBytes.{Consumes-nil, Consumes-trans}
use Rattle.std.proofs.Math.Seq.{take-length}
use Rattle.std.proofs.lemmas.List.{length-take}
use Rattle.fields.specs.Fields.{long_at}
use Rattle.tally.specs.declared.Kind.{Kind}
use Rattle.tally.specs.declared.Scores.{Scores}
use Rattle.tally.specs.Tally.{no_scores, scores_after, kind_of, Scored, Replayed}

module _ (n : ℕ) (Answers : Kind → List ℕ → Bool → Type 0) where
  -- whole records were read, and the scores are theirs
  pub record Whole (old new : Option (List ℕ)) (t : Scores) : Type 0 where
    pub bytes : List ℕ
    pub read : Consumes old new bytes
    pub scored : Scored n Answers bytes t

  pub whole_none : (a : Option (List ℕ)) {t : Scores} → t ≡ no_scores → Whole a a t
  whole_none a e = record { bytes = []; read = Consumes-nil a; scored = subst (Scored n Answers []) (sym e) Scored.none }

  pub whole_all : {old new : Option (List ℕ)} {t : Scores} → Whole old new t → Replayed n Answers old new t
  whole_all {old} {new} w = record { bytes = w.bytes; rest = []; read = subst (Consumes old new) (sym (append-nil w.bytes)) w.read; left = zero-le; scored = w.scored }

  -- what is no whole record is not counted
  pub whole_rest : (l : List ℕ) (count : ℕ) {old mid new : Option (List ℕ)} {t : Scores} → Consumes mid new (take count l) → count < length l → length l ≡ n → Whole old mid t → Replayed n Answers old new t
  whole_rest l count p few long w = record { bytes = w.bytes; rest = take count l; read = Consumes-trans _ _ _ _ _ w.read p; left = simp length-take (omega arith); scored = w.scored }

  module _ (old mid new : Option (List ℕ)) {t : Scores} (w : Whole old mid t) where
    -- one record more, l, which the buffer holds
    module _ (l : List ℕ) {count : ℕ} (p : Consumes mid new (take count l)) (bound : count ≤ length l) (long : length l ≡ n) (full : n ≤ count) {word : ℕ} (is : word ≡ long_at l 0) where
      all : Consumes mid new l
      all = let e : count ≡ length l = omega arith in subst (Consumes mid new) (ap (λ k. take k l) e ∙ take-length l) p

      pub whole_known : {kind : Kind} {b : Bool} {u v : Scores} → kind_of word ≡ Some kind → Answers kind l b → u ≡ v → v ≡ scores_after t (Some kind) b → Whole old new u
      whole_known k a e f =
          record {
            bytes = w.bytes ++ l;
            read = Consumes-trans _ _ _ _ _ w.read all;
            scored = subst (Scored n Answers (w.bytes ++ l)) (sym (e ∙ f)) (Scored.known l w.scored long (ap kind_of (sym is) ∙ k) a);
          }

      pub whole_unknown : {u v : Scores} → kind_of word ≡ None → u ≡ v → v ≡ scores_after t None false → Whole old new u
      whole_unknown k e f =
          record {
            bytes = w.bytes ++ l;
            read = Consumes-trans _ _ _ _ _ w.read all;
            scored = subst (Scored n Answers (w.bytes ++ l)) (sym (e ∙ f)) (Scored.unknown l w.scored long (ap kind_of (sym is) ∙ k));
          }
