use Rattle.std.proofs.Common.{arith, sym, subst, ◌+◌}
use Rattle.kv_io.specs.Reading.{IsScanned, ahead_of}
use Rattle.kv_io.proofs.Places.{scanned-more}
use Rattle.kv_io.proofs.Says.{grows-piece, grows-end, tells-read}
use Rattle.kv_io.proofs.reading.Reading.read_on.Goals as goal

pub returns-in-Ok-eq0-clause-reads : goal.returns-in-Ok-eq0-clause-reads
returns-in-Ok-eq0-clause-reads g c =
    let (fits, small, end, (piece, size, is, taken)) = c.in-Ok-eq0.ensures.reads in
    grows-end (ahead_of c.args.self.now) piece c.read_piece.new.held (g.I.Source.left c.args.source.now) (g.I.Source.left c.read_piece.new.source)
    c.requires.going c.requires.keeps.limit (omega arith) is (end (omega arith)) taken

pub returns-in-Ok-clause-keeps : goal.returns-in-Ok-clause-keeps
returns-in-Ok-clause-keeps g c =
    let (fits, small, end, (piece, size, is, taken)) = c.in-Ok.ensures.reads in
    let old = c.args.self.now in
    record {
      scanned = subst (λ b. IsScanned b old.line old.scanned) (sym is) (scanned-more old.held piece old.line old.scanned c.requires.keeps.scanned);
      limit = omega (arith, c.requires.keeps.limit);
    }

pub returns-in-Ok-clause-reads : goal.returns-in-Ok-clause-reads
returns-in-Ok-clause-reads g c =
    let (fits, small, end, (piece, size, is, taken)) = c.in-Ok.ensures.reads in
    grows-piece (ahead_of c.args.self.now) piece c.read_piece.new.held (c.args.self.now.read + c.in-Ok.count) (g.I.Source.left c.args.source.now) (g.I.Source.left c.read_piece.new.source)
    c.requires.open (omega arith) c.requires.going (omega (arith, c.requires.keeps.limit)) is (omega arith) taken

pub returns-in-Err-clause-reads : goal.returns-in-Err-clause-reads
returns-in-Err-clause-reads g c =
    tells-read (ahead_of c.args.self.now) c.args.self.now.line c.read_piece.new.held (g.I.Source.left c.args.source.now) c.in-Err.stop (g.I.Source.left c.read_piece.new.source)
    c.requires.last c.requires.open c.requires.going c.requires.keeps.limit c.in-Err.ensures.reads
