-- The parts of a line, as the definitions have them.
use Rattle.wire_defs.specs.Text.{words}
use Rattle.trace_defs.specs.Line.{Head}
use Rattle.trace_lang.specs.declared.head.Head.{Head as HeadNow}

abbrev pub head_is : HeadNow → Head
head_is head =
    record {
      marked = head.marked;
      lane = head.lane;
      keyword = head.keyword;
      args = words head.rest.now;
    }
