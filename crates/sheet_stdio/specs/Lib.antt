pub mod StdioError
