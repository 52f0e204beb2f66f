use Rattle.lisp_reader.specs.Building.{stock}
use Rattle.source_programs.proofs.programs.program_of.Goals as goal

-- what was read is there
pub expand_file-requires : goal.expand_file-requires
expand_file-requires c =
    c.texts_are_there.ensures c.args.source.now (stock c.in_ok-symbols.symbols c.new-heap.result) (c.in-Ok.forms.items, stock c.read_file.new.symbols c.read_file.new.heap)
    c.in-Ok.ensures.ok c.begins_with_names.ensures
