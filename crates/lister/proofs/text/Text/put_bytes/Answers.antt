-- `text::Text::put_bytes` meets its contract: the bytes stand between what was in front of them and behind them. Assumes nothing.
use native.Mathlib.Omega.{arith}
use Prim.Native.Nat.{ℕ, ◌+◌, ◌-◌}
use mathlib.Core.Path.{◌≡◌, refl, sym, ap, ap₂, ◌∙◌}
use mathlib.Core.List.{List, ◌++◌, append_assoc}
use lib.ListN.{length, take, drop}
use lib.Seq.{drop-drop}
use Rattle.lister.specs.Inner.Stored.{put}
use Rattle.lister.proofs.text.Text.put_bytes.Goals as goal

pub returns : goal.returns
unfolding put
returns c =
    let s = c.args.self.now in
    let out = s.out.now in
    let bytes = c.args.bytes.now in
    let n = length bytes in
    let k : s.end + n - s.end ≡ n = omega arith in
    let behind = ap (λ (m : ℕ). drop m (drop s.end out)) k ∙ drop-drop n s.end out in
    record {
      added = record {
        laid =
            ap₂ (λ (xs ys : List ℕ). take s.end out ++ (xs ++ ys)) c.copy_from_slice.ensures.after behind
            ∙ sym (append_assoc (take s.end out) bytes (drop (s.end + n) out));
        behind = refl;
        fits = c.requires;
      };
      same = refl;
    }
