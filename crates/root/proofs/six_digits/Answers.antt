-- `root::six_digits` meets its contract. Assumes nothing.
use mathlib.Core.Path.{◌≡◌, sym, ap, ◌∙◌}
use Prim.Native.Nat.{ℕ, ◌+◌, ◌/◌, ◌^◌}
use native.Mathlib.Numerals.{add-one}
use native.Mathlib.Nat.{pow-suc, div-one, div-div-eq-div-mul}
use native.Mathlib.Omega.{arith}
use Rattle.root.proofs.six_digits.Goals as goal

pub loop-more-init : goal.loop-more-init
loop-more-init g c = record { held = rw (let e : c.args.count + 0 ≡ c.args.count = omega arith in e) c.requires.2; part = sym (div-one c.args.unit) }

pub loop-more-preserved : goal.loop-more-preserved
loop-more-preserved g c = record {
  held = rw (let e : c.args.count + (c.loop-more.more + 1) ≡ c.args.count + c.loop-more.more + 1 = omega arith in e) c.next_digits-s.ensures;
  part = ap (λ x. x / 2) c.loop-more.invariant.part ∙ div-div-eq-div-mul c.args.unit (2 ^ c.loop-more.more) 2 ∙ ap (λ x. c.args.unit / x) (sym (pow-suc 2 c.loop-more.more) ∙ ap (λ (x : ℕ). 2 ^ x) (sym (add-one _)));
}

pub returns : goal.returns
returns g c =
    let e : 6 ≡ c.loop-more.more = omega arith in
    rw (ap (λ (x : ℕ). c.args.unit / 2 ^ x) e ∙ sym c.loop-more.invariant.part, ap (λ (x : ℕ). c.args.count + x) e) c.loop-more.invariant.held
