-- What bundle and star calls answer, as one word. Assumes nothing.
use Rattle.std.specs.Prelude.{Result, Ok, Err}
use Rattle.std.specs.Result.{IfOk}
use Rattle.std.proofs.Common.{ℕ, ◌≡◌, ◌≤◌, ◌<◌, List, arith, refl, ◌∙◌}
use Rattle.de9im.specs.Answers.{used_of}
use Rattle.de9im.specs.declared.refusal.Refusal.{Refusal}
use Rattle.de9im.specs.Refused.{place_of, spot_no}
use Rattle.decoder.specs.EndBytes.{ends_call}
use Rattle.star.specs.declared.edge_end_bundle_star.Labels.{Labels}
use Rattle.star.specs.Answers.{bundled_place}
use Rattle.star.specs.Calls.{count_in}
use Rattle.labels.specs.Calls.{bundle_call, star_checked, put_as, StarPut}
use Rattle.labels.proofs.LawsCalls.{bundle-nowhere}
use Rattle.misonkandi.proofs.LawsFit.{near, none_below}
use Rattle.misonkandi.specs.Records.{answer_word}
use Rattle.misonkandi.specs.Stars.{StarTold}
use Rattle.misonkandi.specs.Words.{word_or}

pub bundle_err : (s : List ℕ) (r : Refusal) → bundle_call (ends_call s) ≡ Err r → spot_no (place_of r) < 9
bundle_err s r e = near bundled_place (bundle_call (ends_call s)) r (none_below _ (bundle-nowhere s)) e

pub few_used : (r : Result ℕ Refusal) → IfOk r (λ n. n ≤ 600) → used_of r < 2147483648
few_used (Ok n) h = omega arith
few_used (Err e) h = omega arith

put_word : (c : Result Unit Refusal) (n : ℕ) → answer_word (put_as c n) ≡ word_or c n
put_word (Ok tt) n = refl
put_word (Err r) n = refl

pub star_told : (s : Result Labels Refusal) (held : List ℕ) (r : Result ℕ Refusal) (after : List ℕ) (w : ℕ) → StarPut s held r after → w ≡ answer_word r
    → StarTold s held w after
star_told s held r after w p e = record { told = e ∙ rw p.put (put_word (star_checked s held) (count_in s)); bytes = p.bytes }
