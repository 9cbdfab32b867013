use Rattle.std.proofs.Common.{◌≡◌, ℕ, ◌∙◌, sym, ap, arith, rules}
use Rattle.board.specs.Words.{word_of}
use Rattle.board.proofs.Moves.{claims_at}
use Rattle.board.proofs.Spans.{job_share}
use Rattle.board.proofs.board.Board.claim.Goals as goal

pub fetch_add-found-requires : goal.fetch_add-found-requires
fetch_add-found-requires c =
    let q = c.requires in
    let word : c.word_of-word.result ≡ word_of c.args.token.now.me.0.seats c.args.share = c.word_of-word.ensures.value ∙ ap (λ (w : ℕ). word_of w c.args.share) (sym q.extent.1) in
    (q.board ∙ sym (ap (λ b. b.table) c.self.view_is), omega (arith, c.self.invariant, c.word_of-word.ensures.within), claims_at _ _ _ _ _ _ word (omega (arith, q.left.0, q.extent.1)) q.left.1)

pub returns-then-number-extent-clause-number : goal.returns-then-number-extent-clause-number
returns-then-number-extent-clause-number c =
    let q = c.requires in
    let word : c.word_of-word.result ≡ word_of c.args.token.now.me.0.seats c.args.share = c.word_of-word.ensures.value ∙ ap (λ (w : ℕ). word_of w c.args.share) (sym q.extent.1) in
    let drew = (c.fetch_add-found.ensures.2.0 c.args.share (omega (arith, q.left.0, q.extent.1)) word).drew in
    (search rules, job_share c.args.extent.seats (omega (arith, q.left.0)) c.args.share c.fetch_add-found.result q.left.0)
