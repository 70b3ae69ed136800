use Rattle.std.proofs.Common.{rules, arith, ◌≡◌, ◌<◌, length, IfSome, subst}
use Rattle.soar_edge.proofs.ReadLemmas.{all_left}
use Rattle.soar_edge.proofs.shelf_files.read_whole.Goals as goal

pub returns-in-Ok-2-clause-whole : goal.returns-in-Ok-2-clause-whole
returns-in-Ok-2-clause-whole g c =
    let got = c.read_to_end.new.buf.items in
    let size : c.len.result ≡ length got = search rules in
    let most : c.take.result.limit ≡ 67108865 = c.take.ensures.limit in
    let short : length got < c.take.result.limit = let at_most = c.if-len-gt-MOST_FILE.false in omega arith in
    let known = all_left c.take.result.limit (g.F.Read.remaining c.take.result.inner) c.new-bytes.result.items got c.new-bytes.ensures.items c.in-Ok-2.ensures.bytes short in
    let whole : IfSome (g.F.Read.remaining c.args.file) (λ left. got ≡ left) = subst (λ file. IfSome (g.F.Read.remaining file) (λ left. got ≡ left)) c.take.ensures.inner known in
    search (rules, whole, c.from_vec.ensures)
