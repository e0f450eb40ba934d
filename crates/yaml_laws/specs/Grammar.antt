-- Which texts stand for which forests: tags, nodes, documents and streams (YAML 1.2.2), and texts of JSON (RFC 8259).
pub mod TagSpelling
pub mod FlowScalars
pub mod FlowNodes
pub mod BlockNodes
pub mod Yaml
pub mod ClosedTexts
pub mod Json
