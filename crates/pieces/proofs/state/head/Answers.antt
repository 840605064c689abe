-- The numbers, the refusal and the cells stand one behind the other.
use Rattle.std.proofs.Common.{◌≡◌, ◌∙◌, length, append-nil, rules}
use Rattle.de9im.proofs.LawsForms.{nine-spelled}
use Rattle.pieces.specs.Inner.Head.{eight_of}
use Rattle.pieces.proofs.state.head.Goals as goal

pub returns-clause-head : goal.returns-clause-head
returns-clause-head c =
    let f = c.args.c.floor in
    let used : c.copy_from_slice.new.self ≡ eight_of f.used = c.copy_from_slice.ensures.after ∙ c.eight_bytes.ensures in
    let records : c.copy_from_slice-2.new.self ≡ eight_of f.records = c.copy_from_slice-2.ensures.after ∙ c.eight_bytes-2.ensures in
    let count : c.copy_from_slice-3.new.self ≡ eight_of c.args.c.count = c.copy_from_slice-3.ensures.after ∙ c.eight_bytes-3.ensures in
    let cells : c.copy_from_slice-4.new.self ≡ f.cells = c.copy_from_slice-4.ensures.after in
    let long : length f.cells ≡ 9 = search rules in
    rw (used, records, count, c.stop_number.ensures, cells, append-nil, nine-spelled f.cells long)
