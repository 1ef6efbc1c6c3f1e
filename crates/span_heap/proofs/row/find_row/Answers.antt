use Rattle.span_heap.proofs.TableTellsEachRun.{row_found}
use Rattle.span_heap.proofs.row.find_row.Goals as goal

pub returns : goal.returns
returns c = row_found c.args.rows.now c.args.id c.find_row.result c.find_row.ensures
