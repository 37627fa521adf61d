-- The graphs of a program.
use Rattle.c_prog.specs.declared.tree.Tree.{Tree}
use Rattle.call_graph.specs.Sites.{calls_of}
use Rattle.flow_graph.specs.Flow.{graphs_of}
use Rattle.thread_roots.specs.declared.control.Graphs.{Graphs}

-- control flow of each function of a program, in order, and the calls of the program
abbrev pub graphs_in : Tree → Graphs
graphs_in tree = record { flows = graphs_of tree; calls = calls_of tree }
