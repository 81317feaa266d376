use Rattle.byte_lines.proofs.PieceFacts.{unread-copied}
use Rattle.byte_lines.proofs.mem_source.MemSourceSource.read.Goals as goal

pub returns-clause-consumes : goal.returns-clause-consumes
returns-clause-consumes c =
    let copy = c.copy_beginning-count.ensures in
    unread-copied c.args.self.now.bytes.items c.deref.result.now _ _ c.args.self.now.position c.piece_end-end.result _ _
    c.deref.ensures.value copy.count copy.copied
