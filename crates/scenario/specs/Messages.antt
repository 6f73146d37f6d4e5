-- What is printed for a line that is refused.
use Rattle.std.specs.Prelude.{ℕ, List, codes}
use Rattle.texts.specs.Hex.{hex_fault_text}
use Rattle.scenario.specs.declared.fault.LineFault.{LineFault}
use Rattle.scenario.specs.declared.fault.LineFault.TheVariants.{UnknownWord, WordCount, UnknownEngine, BadHex, BadNumber, BadWord32, PartWord, NoMemory}

abbrev pub line_fault_text : LineFault → List ℕ
line_fault_text UnknownWord = codes "no such word"
line_fault_text WordCount = codes "wrong number of words"
line_fault_text UnknownEngine = codes "no such engine"
line_fault_text (BadHex e) = hex_fault_text e
line_fault_text BadNumber = codes "no decimal number of 32 bits"
line_fault_text BadWord32 = codes "junk is not 8 hexadecimal digits"
line_fault_text PartWord = codes "a column has words of 8 hexadecimal digits"
line_fault_text NoMemory = codes "no memory"
